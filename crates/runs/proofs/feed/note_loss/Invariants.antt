use Rattle.std.proofs.Common.{◌≡◌, ℕ, ◌+◌, ◌<◌, ◌≤◌, length, get_or, pos, nat_abs}
use Rattle.runs.proofs.feed.note_loss.Given as goal

abbrev pub invariant-loop-column : goal.invariant-loop-column
invariant-loop-column l =
    (length l.slacks ≡ 16)
    × ((k : ℕ) → k < l.column → get_or l.slacks k 0 ≡ get_or l.initial.slacks k 0 + nat_abs (get_or l.weights k (pos 0)))
    × ((k : ℕ) → l.column ≤ k → get_or l.slacks k 0 ≡ get_or l.initial.slacks k 0)
