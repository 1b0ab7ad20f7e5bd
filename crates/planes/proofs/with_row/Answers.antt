use Rattle.std.proofs.Common.{◌≡◌, get_or, set, pos, ◌+ℤ◌, sym, ap, ◌∙◌, arith, w64, SFits, to_z, of_z, rules}
use Rattle.std.proofs.lemmas.Int.{to_z-of_z}
use Rattle.units.proofs.Reach.{sum_fits, plus_nil}
use Rattle.planes.proofs.Powers.{signed_more}
use Rattle.planes.proofs.with_row.Goals as goal

pub loop-power-init : goal.loop-power-init
loop-power-init c = sym (plus_nil c.args.sums)

pub overflow_add-sum : goal.overflow_add-sum
overflow_add-sum c =
    let i = c.loop-power.power in
    let step = signed_more c.args.sums c.loop-power.sum-items c.args.number.value c.args.bits i c.signed_by.result (search rules) c.loop-power-test.true c.requires c.args.number.small c.loop-power.invariant c.signed_by.ensures in
    let sum = get_or c.loop-power.sum-items i (pos 0) in
    let old_fits : SFits w64 sum = search rules in
    let more_fits : SFits w64 c.signed_by.result = search rules in
    simp to_z-of_z (sum_fits sum c.signed_by.result (omega (arith, step.old)) (omega (arith, step.more)))

pub loop-power-preserved : goal.loop-power-preserved
loop-power-preserved c =
    let i = c.loop-power.power in
    let step = signed_more c.args.sums c.loop-power.sum-items c.args.number.value c.args.bits i c.signed_by.result (search rules) c.loop-power-test.true c.requires c.args.number.small c.loop-power.invariant c.signed_by.ensures in
    let sum = get_or c.loop-power.sum-items i (pos 0) in
    let old_fits : SFits w64 sum = search rules in
    let more_fits : SFits w64 c.signed_by.result = search rules in
    let new_fits = sum_fits sum c.signed_by.result (omega (arith, step.old)) (omega (arith, step.more)) in
    let value : to_z w64 (of_z w64 (to_z w64 (of_z w64 sum) +ℤ to_z w64 (of_z w64 c.signed_by.result))) ≡ sum +ℤ c.signed_by.result =
    cc (to_z-of_z w64 _ old_fits, to_z-of_z w64 _ more_fits, to_z-of_z w64 _ new_fits) in
    ap (set c.loop-power.sum-items i) value ∙ step.step
