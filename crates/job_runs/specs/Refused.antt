-- Why a job is refused once its file is read.
use Rattle.std.specs.Prelude.{ℕ, ◌+◌, ◌/◌, ◌%◌, List, [], ◌∷◌, ℤ, None, Option}
use Rattle.refusals.specs.declared.Refusal.{Refusal}
use Rattle.refusals.specs.declared.Refusal.TheVariants.{WeightNotTakenAt}
use Rattle.refusals.specs.Refusing.{first}
use Rattle.alignment.specs.Tile.{Tile}
use Rattle.sheets.specs.Page.{line}
use Rattle.units.specs.Meaning.{untaken}
use Rattle.jobs.specs.declared.plan.Plan.{Plan}
use Rattle.jobs.specs.Survey.{tiles_check}
use Rattle.job_runs.specs.Parts.{takes_of, page_at}

-- the weights of a row of the job: they lie in the sheet of the row's tile
abbrev pub weights_of : Plan → List ℕ → ℕ → List ℤ
weights_of p sheets row = line (page_at p sheets (row / 128)) (row % 128)

-- the first weight that the unit does not take, by its row in its tile of 128 and its column; there is a row for each word
abbrev pub weights_check : Plan → List ℕ → ℕ → Tile → Option Refusal
weights_check p sheets row [] = None
weights_check p sheets row (word ∷ words) = first (untaken (takes_of p.unit) (WeightNotTakenAt (row % 128)) 0 (weights_of p sheets row)) (weights_check p sheets (row + 1) words)

-- all words are finite, and then the unit takes all weights
abbrev pub run_check : Plan → Tile → List ℕ → Option Refusal
run_check p words sheets = first (tiles_check 0 words) (weights_check p sheets 0 words)
