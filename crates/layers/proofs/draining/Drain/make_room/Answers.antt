use Rattle.std.proofs.Common.{◌≡◌, ◌+◌, length, ap, ◌∙◌, arith}
use Rattle.units.specs.Meaning.{Meaning, Bounded, reach}
use Rattle.units.proofs.Reach.{length_plus, plus_bounded}
use Rattle.layers.proofs.draining.Drain.make_room.Goals as goal

pub invariant_of-self : goal.invariant_of-self
invariant_of-self g c =
    let d = c.args.self.now in
    let b = g.U.Unit.meaning d.below in
    let law = g.met.U.Unit.lawful d.below in
    let rows = c.rows-then-rows-limit in
    let bounded : Bounded (reach (d.rows + rows.result)) c.move_up.new.sums =
    λ i. rw c.move_up.ensures (omega (arith, rows.ensures, plus_bounded (reach d.rows) (reach b.rows) d.sums b.totals d.bounded law.bounded i)) in
    let none : (g.U.Unit.meaning c.clear.new.self).rows ≡ 0 = ap (λ (m : Meaning). m.rows) c.clear.ensures.clears in
    record {
      wide = ap length c.move_up.ensures ∙ length_plus d.sums b.totals ∙ d.wide;
      short = omega (arith, d.short, rows.ensures, none);
      bounded = bounded;
    }
