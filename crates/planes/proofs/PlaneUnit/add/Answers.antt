use Rattle.std.proofs.Common.{◌≡◌, ◌+◌, ◌*◌, ◌^◌, List, map, length, ℤ, sym, ap, ◌∙◌, subst, arith}
use Rattle.std.specs.List.{refill}
use Rattle.units.specs.Meaning.{Meaning}
use Rattle.planes.specs.Columns.{Eights, EachBounded, takes_odd, weigh, spread}
use Rattle.planes.specs.Plane.{plane}
use Rattle.units.proofs.Checks.{checked, leaves_added}
use Rattle.planes.proofs.Powers.{length_spread, spread_eights, spread_bounded, spread_weighs, spread_back}
use Rattle.planes.proofs.PlaneUnit.add.Goals as goal

pub invariant_of-self : goal.invariant_of-self
invariant_of-self c =
    let u = c.args.self.now in
    let cs = u.sums.items in
    let row = c.in_ok-row.row in
    let a = row.number.value in
    let ws = row.weights.now in
    let ok = checked (plane u) c.args.a c.args.weights.now row c.ranges.a c.in_ok-row.ensures in
    let grew = spread_back cs c.add_row.new.sums a ws (cc (c.add_row.ensures, c.deref_mut.ensures.value)) in
    let counted : length (refill (length cs) cs c.add_row.new.sums) ≡ length cs = ap length grew ∙ length_spread cs a ws in
    record {
      some = omega (arith, counted, u.some);
      few = omega (arith, counted, u.few);
      eights = subst Eights (sym grew) (spread_eights cs a ws u.eights);
      short = omega (arith, ok.accepted.room);
      bounded = subst (EachBounded ((u.rows + 1) * 2 ^ 36)) (sym grew) (spread_bounded u.rows cs a ws (omega (arith, row.number.small)) u.bounded);
    }

pub returns-clause-grows : goal.returns-clause-grows
returns-clause-grows c =
    let u = c.args.self.now in
    let cs = u.sums.items in
    let a = c.args.a in
    let ws = c.args.weights.now in
    let ok = checked (plane u) a ws c.in_ok-row.row c.ranges.a c.in_ok-row.ensures in
    let grew : refill (length cs) cs c.add_row.new.sums ≡ spread cs a ws = spread_back cs c.add_row.new.sums a ws (cc (c.add_row.ensures, c.deref_mut.ensures.value, ok.number, ok.weights)) in
    let with_totals : List ℤ → Meaning = λ ts. record { rows = u.rows + 1; limit = 64; totals = ts; takes = takes_odd } in
    ap with_totals (ap (map weigh) grew ∙ spread_weighs cs a ws u.eights ok.accepted.taken) ∙ leaves_added (plane u) a ws ok.accepted
