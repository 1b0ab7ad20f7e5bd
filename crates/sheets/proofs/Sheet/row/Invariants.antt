use Rattle.std.proofs.Common.{◌≡◌, ℕ, ◌<◌, get_or, pos}
use Rattle.sheets.proofs.Sheet.row.Given as goal

abbrev pub invariant-loop-column : goal.invariant-loop-column
invariant-loop-column g l = (k : ℕ) → k < l.column → get_or l.buffer k (pos 0) ≡ (g.Self.Sheet.meaning l.self).weight l.row k
