use Rattle.std.proofs.Common.{◌≡◌, ◌+◌, length, ap, ◌∙◌, arith}
use Rattle.std.specs.List.{refill}
use Rattle.units.specs.Meaning.{Bounded, reach}
use Rattle.units.specs.Multiplier.{multiplier}
use Rattle.units.proofs.Checks.{checked}
use Rattle.units.proofs.Reach.{length_plus, grown_bounded, grown_back}
use Rattle.units.proofs.multiply.MultiplierUnit.add.Goals as goal

pub invariant_of-self : goal.invariant_of-self
invariant_of-self c =
    let u = c.args.self.now in
    let ts = u.sums.items in
    let row = c.in_ok-row.row in
    let ok = checked (multiplier u) c.args.a c.args.weights.now row c.ranges.a c.in_ok-row.ensures in
    let grew = grown_back ts c.grow.new.sums row.number.value row.weights.now (cc (c.grow.ensures, c.deref_mut.ensures.value)) in
    let counted : length (refill (length ts) ts c.grow.new.sums) ≡ length ts = ap length grew ∙ length_plus ts _ in
    let bounded : Bounded (reach (u.rows + 1)) (refill (length ts) ts c.grow.new.sums) = rw grew (grown_bounded u.rows ts row.number.value row.weights.now u.bounded row.number.small row.light) in
    record { some = omega (arith, counted, u.some); few = omega (arith, counted, u.few); short = omega (arith, ok.accepted.room); bounded = bounded }
