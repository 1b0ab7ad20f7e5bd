-- Answers where memory may run out.
use Rattle.std.specs.Prelude.{Option, Ok, Err, Result}
use Rattle.refusals.specs.declared.Refusal.{Refusal}
use Rattle.refusals.specs.Refusing.{Made}
use Rattle.jobs.specs.declared.error.JobError.{JobError}
use Rattle.jobs.specs.declared.error.JobError.TheVariants.{Refused, Memory}

-- what a making call answers by its checks, within memory: the refusal, or else a value of which P holds
abbrev pub MadeInMemory : {X : Type 0} → Option Refusal → (X → Type 0) → Result X JobError → Type 0
MadeInMemory checks P (Ok x) = Made checks P (Ok x)
MadeInMemory checks P (Err (Refused refusal)) = Made checks P (Err refusal)
MadeInMemory checks P (Err (Memory error)) = Unit {0}
