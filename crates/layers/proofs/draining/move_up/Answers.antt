use Rattle.std.proofs.Common.{◌≡◌, ◌≤◌, ◌++◌, length, get_or, take, drop, pos, Ok, ap, ◌∙◌, subst, arith, w64, SFits, rules}
use Rattle.std.proofs.lemmas.List.{take_all, length-take-le}
use Rattle.std.proofs.lemmas.Int.{to_z-of_z}
use Rattle.units.specs.Meaning.{plus_each, total_at}
use Rattle.units.proofs.Reach.{sum_fits}
use Rattle.layers.proofs.DrainSteps.{moved_front, plus_front}
use Rattle.layers.proofs.draining.move_up.Goals as goal

pub overflow_add-sum : goal.overflow_add-sum
overflow_add-sum g c =
    let m = g.U.Unit.meaning c.args.unit.now in
    let sum = get_or c.loop-column.sum-items c.loop-column.column (pos 0) in
    let read : total_at m c.loop-column.column ≡ Ok c.unwrap.result = subst (λ o. o ≡ Ok c.unwrap.result) c.total.ensures c.unwrap.ensures in
    let step = moved_front m c.args.sums.now c.loop-column.sum-items c.columns.result c.loop-column.column c.unwrap.result (g.met.U.Unit.lawful c.args.unit.now) c.columns.ensures c.told-sums c.requires c.loop-column.invariant read in
    let old_fits : SFits w64 sum = search rules in
    let total_fits : SFits w64 c.unwrap.result = search rules in
    simp to_z-of_z (sum_fits sum c.unwrap.result step.old step.more)

pub loop-column-preserved : goal.loop-column-preserved
loop-column-preserved g c =
    let m = g.U.Unit.meaning c.args.unit.now in
    let sum = get_or c.loop-column.sum-items c.loop-column.column (pos 0) in
    let read : total_at m c.loop-column.column ≡ Ok c.unwrap.result = subst (λ o. o ≡ Ok c.unwrap.result) c.total.ensures c.unwrap.ensures in
    let step = moved_front m c.args.sums.now c.loop-column.sum-items c.columns.result c.loop-column.column c.unwrap.result (g.met.U.Unit.lawful c.args.unit.now) c.columns.ensures c.told-sums c.requires c.loop-column.invariant read in
    let old_fits : SFits w64 sum = search rules in
    let total_fits : SFits w64 c.unwrap.result = search rules in
    let new_fits = sum_fits sum c.unwrap.result step.old step.more in
    (cc (to_z-of_z w64 _ old_fits, to_z-of_z w64 _ total_fits, to_z-of_z w64 _ new_fits)) ∙ step.step

pub returns : goal.returns
returns g c =
    let totals = (g.U.Unit.meaning c.args.unit.now).totals in
    let law = g.met.U.Unit.lawful c.args.unit.now in
    let n = c.columns.result in
    let sums = c.args.sums.now in
    let all : length totals ≤ c.loop-column.column = omega (arith, c.columns.ensures, c.loop-column-test.false, length-take-le n sums (omega (arith, c.columns.ensures, law.few_columns, c.told-sums))) in
    let whole = c.loop-column.invariant ∙ ap (plus_each (take n sums)) (take_all c.loop-column.column totals all) in
    ap (λ zs. zs ++ drop n sums) whole
    ∙ ap (λ k. plus_each (take k sums) totals ++ drop k sums) c.columns.ensures
    ∙ plus_front sums totals (omega (arith, law.few_columns, c.told-sums))
