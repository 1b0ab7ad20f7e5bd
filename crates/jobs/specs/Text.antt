-- The text that a file is answered with.
use Rattle.std.specs.Prelude.{◌≡◌, ℕ, List, IfSome, Some, None, Ok, Err, Option, Result}
use Rattle.refusals.specs.declared.Refusal.{Refusal}
use Rattle.listing.specs.Lines.{refused_text}
use Rattle.jobs.specs.declared.error.JobError.{JobError}
use Rattle.jobs.specs.declared.error.JobError.TheVariants.{Refused, Memory}
use Rattle.jobs.specs.declared.plan.Plan.{Plan}
use Rattle.jobs.specs.Plan.{plan_of}
use Rattle.jobs.specs.Trailer.{trailer_of}

-- the text of an answer: what its type's output is of what was made, or the number of the refusal; want of memory has none
abbrev pub TextOf : {X : Type 0} → (X → Option (List ℕ)) → Result X JobError → List ℕ → Type 0
TextOf output (Ok x) text = IfSome (output x) (λ shown. text ≡ shown)
TextOf output (Err (Refused refusal)) text = text ≡ refused_text refusal
TextOf output (Err (Memory error)) text = ⊥

-- by what the checks gave: what is shown of the plan that the trailer asks for, or the number of the refusal
abbrev pub PrintedBy : (Plan → List ℕ) → Option Refusal → List ℕ → List ℕ → Type 0
PrintedBy shown None file text = (p : Plan) → plan_of (trailer_of file) ≡ Some p → text ≡ shown p
PrintedBy shown (Some refusal) file text = text ≡ refused_text refusal
