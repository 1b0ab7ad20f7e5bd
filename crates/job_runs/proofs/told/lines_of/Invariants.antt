use Rattle.std.proofs.Common.{◌≡◌, ◌+◌, ◌≤◌, ◌++◌, length, vec_items}
use Rattle.job_runs.specs.Readings.{lines_from}
use Rattle.job_runs.proofs.told.lines_of.Given as goal

-- the lines so far, and those of the readings that are left
abbrev pub invariant-loop-column : goal.invariant-loop-column
invariant-loop-column l =
    let left = l.column-iterator.b.rest.now in
    (goal.iterator-loop-column).can_next l.column-iterator × (goal.iterator-loop-column).is_finite l.column-iterator
    × (l.column-iterator.a.start + length left ≤ 16)
    × (vec_items l.lines ++ lines_from l.column-iterator.a.start left ≡ lines_from 0 l.readings)
