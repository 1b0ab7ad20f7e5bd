use Rattle.std.proofs.Common.{◌≡◌, map, take}
use Rattle.layers.specs.Halving.{odd_of}
use Rattle.layers.proofs.halving.doubled.Given as goal

abbrev pub invariant-loop-weight : goal.invariant-loop-weight
invariant-loop-weight l = l.doubled.items ≡ map odd_of (take l.weight-index l.row.weights.now)
