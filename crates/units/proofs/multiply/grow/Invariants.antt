use Rattle.std.proofs.Common.{◌≡◌, take}
use Rattle.units.specs.Meaning.{grown}
use Rattle.units.proofs.multiply.grow.Given as goal

abbrev pub invariant-loop-column : goal.invariant-loop-column
invariant-loop-column l = l.sums ≡ grown l.initial.sums l.row.number.value (take l.column l.row.weights.now)
