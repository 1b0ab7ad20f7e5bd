use Rattle.std.proofs.Common.{◌≡◌, ◌-◌, length, drop}
use Rattle.planes.specs.Columns.{weigh}
use Rattle.planes.proofs.weighed.Given as goal

abbrev pub invariant-loop-sum : goal.invariant-loop-sum
invariant-loop-sum l = l.total ≡ weigh (drop (8 - length l.yielded) l.fn.sums)
