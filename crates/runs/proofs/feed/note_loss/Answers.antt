use Rattle.std.proofs.Common.{◌≡◌, length, pos, nat_abs, sym, ap, ◌∙◌, ⊎_elim, arith}
use Rattle.std.proofs.lemmas.List.{get_or_past}
use Rattle.std.proofs.lemmas.List.FromFn.{fill_by_all}
use Rattle.std.proofs.lemmas.Bool.{cases_lt, cond-true, not-false}
use Rattle.runs.specs.State.{widened}
use Rattle.runs.proofs.feed.note_loss.Goals as goal

pub returns : goal.returns
returns c =
    let all : c.loop-column.slacks ≡ widened c.args.slacks.now c.args.weights.now =
    fill_by_all _ c.loop-column.slacks (length c.args.slacks.now) 0 (c.loop-column.invariant.0 ∙ sym c.told-slacks)
    (λ k h. ⊎_elim (λ low. c.loop-column.invariant.1 k low)
    (λ past. c.loop-column.invariant.2 k past ∙ omega (arith, ap nat_abs (get_or_past c.args.weights.now k (pos 0) (omega arith)))) (cases_lt k c.loop-column.column)) in
    all ∙ sym (cond-true c.args.cut.lost _ _ (not-false _ c.if-not-cut.false))
