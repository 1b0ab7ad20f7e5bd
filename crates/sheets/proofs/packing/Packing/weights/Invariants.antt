use Rattle.std.proofs.Common.{◌≡◌, ℕ, ◌+◌, ◌<◌, get_or, pos}
use Rattle.sheets.specs.Packing.{weight_at}
use Rattle.sheets.proofs.packing.Packing.weights.Given as goal

abbrev pub invariant-loop-k : goal.invariant-loop-k
invariant-loop-k g l = (j : ℕ) → j < l.k → get_or l.buffer j (pos 0) ≡ weight_at (g.Self.Packing.code l.self) l.places l.bytes (l.first + j)
