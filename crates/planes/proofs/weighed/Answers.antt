use Rattle.std.proofs.Common.{◌≡◌, ◌+◌, ◌-◌, [], ◌∷◌, length, drop, pos, ◌+ℤ◌, ◌*ℤ◌, to_z, of_z, sym, ap, ◌∙◌, arith, w64, SFits, rules}
use Rattle.std.proofs.lemmas.Int.{ints}
use Rattle.std.proofs.lemmas.List.{length-append}
use Rattle.planes.specs.Columns.{weigh}
use Rattle.planes.proofs.Powers.{turned}
use Rattle.planes.proofs.weighed.Goals as goal

pub overflow_mul-total : goal.overflow_mul-total
overflow_mul-total c =
    let step = turned _ c.args.sums (search rules) c.requires (cc) c.loop-sum.yielded c.loop-sum.sum-iterator c.loop-sum.yielded_by _ _ c.in-Some.sum c.in-Some.is c.next.ensures.steps c.loop-sum.total (sym c.loop-sum.total-is ∙ c.loop-sum.invariant) in
    rw c.loop-sum.total-is (omega (arith, ints, step.so_far, step.more))

pub overflow_add-total : goal.overflow_add-total
overflow_add-total c =
    let step = turned _ c.args.sums (search rules) c.requires (cc) c.loop-sum.yielded c.loop-sum.sum-iterator c.loop-sum.yielded_by _ _ c.in-Some.sum c.in-Some.is c.next.ensures.steps c.loop-sum.total (sym c.loop-sum.total-is ∙ c.loop-sum.invariant) in
    let fits : SFits w64 c.in-Some.sum.now = omega (arith, ints, step.more) in
    rw c.loop-sum.total-is (omega (arith, ints, step.so_far, step.more))

pub loop-sum-preserved : goal.loop-sum-preserved
loop-sum-preserved c =
    let step = turned _ c.args.sums (search rules) c.requires (cc) c.loop-sum.yielded c.loop-sum.sum-iterator c.loop-sum.yielded_by _ _ c.in-Some.sum c.in-Some.is c.next.ensures.steps c.loop-sum.total (sym c.loop-sum.total-is ∙ c.loop-sum.invariant) in
    let k = length c.loop-sum.yielded in
    let fits : SFits w64 c.in-Some.sum.now = omega (arith, ints, step.more) in
    let value : to_z w64 (of_z w64 (to_z w64 (of_z w64 (pos 2 *ℤ to_z w64 c.loop-sum.total-bits)) +ℤ to_z w64 (of_z w64 c.in-Some.sum.now))) ≡ weigh (drop (8 - (k + 1)) c.args.sums) =
    omega (arith, ints, step.so_far, step.more, step.step, c.loop-sum.total-is) in
    value ∙ ap (λ n. weigh (drop (8 - n) c.args.sums)) (sym (length-append c.loop-sum.yielded (c.in-Some.sum ∷ [])))
