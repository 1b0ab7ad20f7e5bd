use Rattle.std.proofs.Common.{◌≡◌, take}
use Rattle.units.specs.Meaning.{plus_each}
use Rattle.layers.proofs.draining.move_up.Given as goal

abbrev pub invariant-loop-column : goal.invariant-loop-column
invariant-loop-column g l = l.sum-items ≡ plus_each l.initial.sum-items (take l.column (g.U.Unit.meaning l.unit).totals)
