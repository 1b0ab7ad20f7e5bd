-- What is taken from the answers to a job's calls.
use Rattle.std.specs.Prelude.{ℕ, ◌+◌, List, [], ◌∷◌, Some, None, Ok, Err, Option}
use Rattle.refusals.specs.declared.Refusal.{Refusal}
use Rattle.runs.specs.declared.Reading.{Reading}
use Rattle.calls.specs.Lists.{Answer}
use Rattle.listing.specs.declared.Line.{Line}

-- the first refusal among the answers
abbrev pub first_refusal : List Answer → Option Refusal
first_refusal [] = None
first_refusal (Ok told ∷ answers) = first_refusal answers
first_refusal (Err refusal ∷ answers) = Some refusal

-- the readings among the answers
abbrev pub readings : List Answer → List Reading
readings [] = []
readings (Ok None ∷ answers) = readings answers
readings (Ok (Some reading) ∷ answers) = reading ∷ readings answers
readings (Err refusal ∷ answers) = readings answers

-- the line of a column by its reading
abbrev pub line_of : ℕ → Reading → Line
line_of column r = record { column = column; total = r.total; slack = r.slack; word = r.word }

-- a line for each reading, the columns being counted on from `column`
abbrev pub lines_from : ℕ → List Reading → List Line
lines_from column [] = []
lines_from column (r ∷ rs) = line_of column r ∷ lines_from (column + 1) rs
