use Rattle.std.proofs.Common.{◌≡◌, take}
use Rattle.planes.specs.Columns.{spread}
use Rattle.planes.proofs.add_row.Given as goal

abbrev pub invariant-loop-column : goal.invariant-loop-column
invariant-loop-column l = l.sums ≡ spread l.initial.sums l.row.number.value (take l.column l.row.weights.now)
