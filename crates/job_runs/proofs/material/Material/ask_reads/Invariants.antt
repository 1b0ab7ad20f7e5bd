use Rattle.std.proofs.Common.{◌≡◌, ◌++◌, vec_items}
use Rattle.formats.specs.Coding.{Coding}
use Rattle.job_runs.specs.Events.{events_of, reads}
use Rattle.job_runs.proofs.material.Material.ask_reads.Given as goal

abbrev pub invariant-loop-column : goal.invariant-loop-column
invariant-loop-column g l = (f : Coding g.row.W.Denot) → events_of f (vec_items l.calls) ≡ events_of f (vec_items l.initial.calls) ++ reads l.column
