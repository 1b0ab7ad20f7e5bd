-- The terms that a job adds up in a column, row by row.
use Rattle.std.specs.Prelude.{ℕ, ◌+◌, ◌/◌, ◌%◌, List, [], ◌∷◌, ℤ, pos, Some, None, Option}
use Rattle.formats.specs.Coding.{Decoded}
use Rattle.sums.specs.Terms.{Term, value}
use Rattle.alignment.specs.Tile.{Tile}
use Rattle.jobs.specs.declared.plan.Plan.{Plan}
use Rattle.job_runs.specs.Parts.{page_at}

-- the value of a word in grains, and 0 of one that is not finite
abbrev pub value_of : Option Decoded → ℤ
value_of None = pos 0
value_of (Some d) = value d

-- the weight of a row of the job in a column: it lies in the sheet of the row's tile
abbrev pub weight_of : Plan → List ℕ → ℕ → ℕ → ℤ
weight_of p sheets row column = (page_at p sheets (row / 128)).weight (row % 128) column

-- the terms of a column, one for each word; the job's rows are counted on from `row`
abbrev pub terms_from : Plan → List ℕ → ℕ → ℕ → Tile → List Term
terms_from p sheets column row [] = []
terms_from p sheets column row (word ∷ words) = record { value = value_of word; weight = weight_of p sheets row column } ∷ terms_from p sheets column (row + 1) words

-- the terms of a column, one for each row of the job
abbrev pub job_terms : Plan → Tile → List ℕ → ℕ → List Term
job_terms p words sheets column = terms_from p sheets column 0 words
