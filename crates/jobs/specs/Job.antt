-- Why a file is not a job, and what the job is otherwise.
use Rattle.std.specs.Prelude.{◌≡◌, ℕ, ◌+◌, ◌-◌, List, length, take, drop, Some, Option, nat_lt}
use Rattle.std.specs.Option.{option_and_then}
use Rattle.refusals.specs.declared.Refusal.{Refusal}
use Rattle.refusals.specs.declared.Refusal.TheVariants.{SectionOutside}
use Rattle.refusals.specs.Refusing.{refuse, first}
use Rattle.jobs.specs.declared.job.Job.{Job}
use Rattle.jobs.specs.declared.job.Section.{Section}
use Rattle.jobs.specs.declared.plan.Plan.{Plan}
use Rattle.jobs.specs.declared.trailer.Trailer.{Trailer}
use Rattle.jobs.specs.Plan.{plan_of, plan_check, activation_bytes, weight_bytes}
use Rattle.jobs.specs.Trailer.{trailer_of, file_check}

-- a section ends before the trailer
abbrev pub section_check : List ℕ → ℕ → ℕ → Option Refusal
section_check file place size = refuse (nat_lt (length file - 16) (place + size)) SectionOutside

-- both sections of a plan do
abbrev pub sections_check : List ℕ → Trailer → Plan → Option Refusal
sections_check file t p = first (section_check file t.activations (activation_bytes p)) (section_check file t.weights (weight_bytes p))

-- the checks of a trailer and of the sections that it points to
abbrev pub trailer_check : List ℕ → Trailer → Option Refusal
trailer_check file t = first (plan_check t) (option_and_then (sections_check file t) (plan_of t))

-- all that reading a job checks
abbrev pub job_check : List ℕ → Option Refusal
job_check file = first (file_check (length file)) (trailer_check file (trailer_of file))

-- a section is a part of the file, and tells its place there
pub record SectionOf (file : List ℕ) (place size : ℕ) (s : Section) : Type 0 where
  pub stands : s.place ≡ place
  pub holds : s.bytes.now ≡ take size (drop place file)
  pub long : length s.bytes.now ≡ size

-- a job has the plan of its trailer, and the sections that the trailer points to
pub record JobOf (file : List ℕ) (job : Job) : Type 0 where
  pub plan : plan_of (trailer_of file) ≡ Some job.plan
  pub activations : SectionOf file (trailer_of file).activations (activation_bytes job.plan) job.activations
  pub weights : SectionOf file (trailer_of file).weights (weight_bytes job.plan) job.weights
