-- What a run and its unit hold, and what each call leaves of that.
use Rattle.std.specs.Prelude.{ℕ, ◌+◌, max, Bool, true, false, cond, List, [], ◌∷◌, map, length, replicate, ℤ, pos, ◌-ℤ◌, Some, None, fold, Option, slice_index, slice_index_or, unsigned_abs}
use Rattle.std.specs.List.{range_with_len}
use Rattle.refusals.specs.declared.Refusal.{Refusal}
use Rattle.refusals.specs.Refusing.{unless}
use Rattle.sums.specs.Terms.{value, step_of, cut, lost}
use Rattle.alignment.specs.Tile.{Tile, survey_check, largest}
use Rattle.sheets.specs.Page.{Page, line}
use Rattle.units.specs.Meaning.{Meaning, added, cleared}
use Rattle.rounding.specs.Word.{nearest_word}
use Rattle.runs.specs.declared.Reading.{Reading}
use Rattle.runs.specs.Checks.{Setting, setting, feed_check}

-- whether the run is aligned, what it was opened with, its shared exponent, the rows fed, a slack for each column, and its unit
pub record State : Type 0 where
  pub aligned : Bool
  pub least : ℤ
  pub extra : ℕ
  pub shared : ℤ
  pub rows : ℕ
  pub slacks : List ℕ
  pub unit : Meaning

-- what opening settled
abbrev pub setting_of : State → Setting
setting_of s = setting s.least s.extra s.unit

-- the step in grains
abbrev pub step_size : State → ℕ
step_size s = step_of s.shared s.extra

-- a surveying run as opening leaves it: at the least exponent, the unit cleared
abbrev pub opened : ℤ → ℕ → Meaning → State
opened least extra unit = record { aligned = false; least = least; extra = extra; shared = least; rows = 0; slacks = replicate 16 0; unit = cleared unit }

-- another shared exponent
abbrev pub sharing : State → ℤ → State
sharing s shared = record s { shared = shared }

-- what a survey leaves: the larger of the shared exponent and every exponent in the tile, unless it is refused
abbrev pub surveyed : State → Tile → State
surveyed s words = unless (survey_check words) s (sharing s (largest s.shared words))

-- what fix leaves
abbrev pub fixed : State → State
fixed s = record s { aligned = true }

-- each slack grows by the magnitude of its weight
abbrev pub widened : List ℕ → List ℤ → List ℕ
widened slacks weights = map (λ c. slice_index slacks c + unsigned_abs (slice_index_or weights c (pos 0))) (range_with_len 0 (length slacks))

-- a row more: the unit adds the aligned number, and where part of it was lost, the slacks grow
abbrev pub put : State → ℤ → Bool → List ℤ → State
put s number part-lost weights = record s {
  rows = s.rows + 1;
  slacks = cond part-lost (widened s.slacks weights) s.slacks;
  unit = added s.unit number weights;
}

-- a row of a tile: its word's value in grains, and its weights
pub record Row : Type 0 where
  pub value : ℤ
  pub weights : List ℤ

-- the rows of a tile's finite words, counted on from `row`
abbrev pub rows_of : Page → ℕ → Tile → List Row
rows_of sheet row [] = []
rows_of sheet row (None ∷ words) = rows_of sheet (row + 1) words
rows_of sheet row (Some d ∷ words) = record { value = value d; weights = line sheet row } ∷ rows_of sheet (row + 1) words

-- a row cut to the run's step, and put
abbrev pub add_row : State → Row → State
add_row s r = put s (cut (step_size s) r.value) (lost (step_size s) r.value) r.weights

-- the checks of a feed, by the larger of the run's and the unit's row count
abbrev pub fed_check : State → Tile → Page → Option Refusal
fed_check s words sheet = feed_check (setting_of s) s.shared (max s.rows s.unit.rows) words sheet

-- what a feed leaves: all the rows added, unless it is refused
abbrev pub fed : State → Tile → Page → State
fed s words sheet = unless (fed_check s words sheet) s (fold add_row s (rows_of sheet 0 words))

-- what clear leaves: a run as after opening
abbrev pub restarted : State → State
restarted s = opened s.least s.extra s.unit

-- the figures of a total and a slack, at a step of 2^exponent
abbrev pub figures : ℤ → ℕ → ℤ → Reading
figures total slack exponent = record { total = total; slack = slack; exponent = exponent; word = nearest_word total exponent }

-- what a column reads: the unit's total and the run's slack there
abbrev pub reading : State → ℕ → Reading
reading s c = figures (slice_index_or s.unit.totals c (pos 0)) (slice_index s.slacks c) (s.shared -ℤ pos s.extra)
