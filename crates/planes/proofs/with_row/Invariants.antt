use Rattle.std.proofs.Common.{◌≡◌, take}
use Rattle.units.specs.Meaning.{plus_each}
use Rattle.planes.specs.Columns.{signs}
use Rattle.planes.proofs.with_row.Given as goal

abbrev pub invariant-loop-power : goal.invariant-loop-power
invariant-loop-power l = l.sum-items ≡ plus_each l.initial.sum-items (take l.power (signs 8 l.number.value l.bits))
