-- What a file is listed as: why it is refused, or its header and a line for each column.
use Rattle.std.specs.Prelude.{◌≡◌, ℕ, List, map, pos, ◌-ℤ◌, Some, vec_items, Option, Result}
use Rattle.std.specs.List.{range_with_len, AllByRecursion}
use Rattle.std.specs.Option.{option_and_then}
use Rattle.refusals.specs.declared.Refusal.{Refusal}
use Rattle.refusals.specs.Refusing.{first}
use Rattle.sums.specs.Terms.{step_of, total, slack, exact}
use Rattle.sums.specs.Laws.{Tells}
use Rattle.alignment.specs.Tile.{Tile}
use Rattle.rounding.specs.Word.{nearest_word}
use Rattle.jobs.specs.declared.plan.Plan.{Plan}
use Rattle.jobs.specs.declared.error.JobError.{JobError}
use Rattle.jobs.specs.Error.{MadeInMemory}
use Rattle.jobs.specs.Job.{job_check}
use Rattle.jobs.specs.Plan.{plan_of}
use Rattle.jobs.specs.Survey.{file_tile, shared_of, job_header}
use Rattle.jobs.specs.Trailer.{trailer_of}
use Rattle.listing.specs.declared.Line.{Line}
use Rattle.listing.specs.declared.Listing.{Listing}
use Rattle.job_runs.specs.Parts.{file_sheets}
use Rattle.job_runs.specs.Events.{job_answers}
use Rattle.job_runs.specs.Readings.{first_refusal}
use Rattle.job_runs.specs.Terms.{job_terms}
use Rattle.job_runs.specs.Refused.{run_check}

-- the checks of reading the file, and then of its words and weights
abbrev pub listing_check : List ℕ → Option Refusal
listing_check file = first (job_check file) (option_and_then (λ p. run_check p (file_tile file p) (file_sheets file p)) (plan_of (trailer_of file)))

-- the step in grains
abbrev pub job_step : Plan → Tile → ℕ
job_step p words = step_of (shared_of p words) p.extra

-- the line of a column: total and slack of its terms, and total × step as a word
abbrev pub job_line : Plan → Tile → List ℕ → ℕ → Line
job_line p words sheets column =
    let sum = total (job_step p words) (job_terms p words sheets column) in
    record { column = column; total = sum; slack = slack (job_step p words) (job_terms p words sheets column); word = nearest_word sum (shared_of p words -ℤ pos p.extra) }

-- a line tells where the exact sum of its column lies
abbrev pub Told : Plan → Tile → List ℕ → Line → Type 0
Told p words sheets line = Tells (job_step p words) line.total line.slack (exact (job_terms p words sheets line.column))

-- a listing has the job's header, and a line for each column, from column 0 on; and every line tells where its column's exact sum lies
pub record Lists (p : Plan) (words : Tile) (sheets : List ℕ) (listing : Listing) : Type 0 where
  pub headed : listing.header ≡ job_header p words
  pub lines : vec_items listing.lines ≡ map (job_line p words sheets) (range_with_len 0 p.columns)
  pub told : AllByRecursion (Told p words sheets) (vec_items listing.lines)

-- what listing a job answers: the first refusal among the answers to its calls, or else its listing, unless memory runs out
abbrev pub ListedAs : Plan → Tile → List ℕ → Result Listing JobError → Type 0
ListedAs p words sheets = MadeInMemory (first_refusal (job_answers p words sheets)) (Lists p words sheets)

-- the listing of the plan that the file's trailer asks for
abbrev pub ListingOf : List ℕ → Listing → Type 0
ListingOf file listing = (p : Plan) → plan_of (trailer_of file) ≡ Some p → Lists p (file_tile file p) (file_sheets file p) listing
