-- The log of a run: what it was given since opening or clear. Each call changes the log in the words of the subject, and a
-- run holds just what its log says.
use Rattle.std.specs.Prelude.{◌≡◌, ℕ, ◌<◌, ◌≤◌, Bool, true, false, List, [], ◌++◌, map, length, get_or, ℤ, pos, ◌-ℤ◌, None, Option, slice_index, slice_index_or}
use Rattle.std.specs.List.{AllByRecursion}
use Rattle.refusals.specs.declared.Refusal.{Refusal}
use Rattle.refusals.specs.Refusing.{unless}
use Rattle.sums.specs.Terms.{Term, step_of, total, slack, exact}
use Rattle.sums.specs.Laws.{Tells, Harmless, SameTerms}
use Rattle.alignment.specs.Tile.{Tile, survey_check, largest}
use Rattle.sheets.specs.Page.{Page}
use Rattle.units.specs.Meaning.{column_check}
use Rattle.runs.specs.declared.Reading.{Reading}
use Rattle.runs.specs.Checks.{Setting, feed_check}
use Rattle.runs.specs.State.{State, setting_of, Row, rows_of, figures, reading}

-- what opening settled, whether the run is aligned, its shared exponent, and the rows accepted since opening or clear
pub record Log : Type 0 where
  pub setting : Setting
  pub aligned : Bool
  pub shared : ℤ
  pub fed : List Row

-- a call that a run can be given
pub data Event : Type 0 where
  survey : Tile → Event
  fix : Event
  feed : Tile → Page → Event
  read : ℕ → Event
  clear : Event

-- after opening, and after clear: the least exponent, and no rows
abbrev pub empty : Setting → Log
empty z = record { setting = z; aligned = false; shared = z.least; fed = [] }

-- the larger of the shared exponent and every exponent in the tile
abbrev pub raised : Log → Tile → Log
raised l words = record l { shared = largest l.shared words }

-- the run aligned
abbrev pub settled : Log → Log
settled l = record l { aligned = true }

-- more rows
abbrev pub with_rows : Log → List Row → Log
with_rows l rows = record l { fed = l.fed ++ rows }

-- what refuses a call
abbrev pub refusal : Log → Event → Option Refusal
refusal l (survey words) = survey_check words
refusal l fix = None
refusal l (feed words sheet) = feed_check l.setting l.shared (length l.fed) words sheet
refusal l (read column) = column_check l.setting.columns column
refusal l clear = None

-- An accepted survey raises the shared exponent, fix aligns, an accepted feed adds its rows, and clear starts anew; read and
-- refused calls change nothing.
abbrev pub after : Log → Event → Log
after l (survey words) = unless (refusal l (survey words)) l (raised l words)
after l fix = settled l
after l (feed words sheet) = unless (refusal l (feed words sheet)) l (with_rows l (rows_of sheet 0 words))
after l (read column) = l
after l clear = empty l.setting

-- the term that a row gives a column
abbrev pub term_at : ℕ → Row → Term
term_at column row = record { value = row.value; weight = slice_index_or row.weights column (pos 0) }

-- a column's terms
abbrev pub terms : Log → ℕ → List Term
terms l column = map (term_at column) l.fed

-- the step is 2 to this power
abbrev pub step_exponent : Log → ℤ
step_exponent l = l.shared -ℤ pos l.setting.extra

-- the step in grains
abbrev pub step : Log → ℕ
step l = step_of l.shared l.setting.extra

-- what a column reads by its terms: their total and slack, the step's exponent, and the result word
abbrev pub reading_of : Log → ℕ → Reading
reading_of l column = figures (total (step l) (terms l column)) (slack (step l) (terms l column)) (step_exponent l)

-- a run and its unit hold what the log says
pub record Holds (l : Log) (s : State) : Type 0 where
  pub setting : setting_of s ≡ l.setting
  pub stage : s.aligned ≡ l.aligned
  pub shared : s.shared ≡ l.shared
  pub rows : s.rows ≡ length l.fed
  pub unit_rows : s.unit.rows ≡ length l.fed
  pub wide : l.setting.columns ≤ length s.slacks
  pub none_yet : l.aligned ≡ false → l.fed ≡ []
  pub totals : (c : ℕ) → c < l.setting.columns → slice_index_or s.unit.totals c (pos 0) ≡ total (step l) (terms l c)
  pub slacks : (c : ℕ) → c < l.setting.columns → slice_index s.slacks c ≡ slack (step l) (terms l c)

-- What a column's total and slack say of the terms that were accepted since opening or clear: they tell where the exact sum
-- lies, and the slack is the sum of |weight| over the lost terms, so that it is 0 exactly when no term that weighs was lost.
pub record Promised (l : Log) (s : State) (c : ℕ) : Type 0 where
  pub tells : Tells (step l) (slice_index_or s.unit.totals c (pos 0)) (slice_index s.slacks c) (exact (terms l c))
  pub lost_weight : get_or s.slacks c 0 ≡ slack (step l) (terms l c)
  pub none_lost : get_or s.slacks c 0 ≡ 0 → AllByRecursion (Harmless (step l)) (terms l c)
  pub no_slack : AllByRecursion (Harmless (step l)) (terms l c) → slice_index s.slacks c ≡ 0

-- the promise holds in every column
abbrev pub Sound : Log → State → Type 0
Sound l s = (c : ℕ) → c < l.setting.columns → Promised l s c

-- A call found a run at s and left it at t, its checks giving o. Whatever log the run had, the checks are the log's, and the
-- run goes on with the log after the call.
abbrev pub Logged : Event → State → State → Option Refusal → Type 0
Logged e s t o = (l : Log) → Holds l s → (refusal l e ≡ o) × Holds (after l e) t

-- a column of one log and a column of another have one step and the same terms, each as often
pub record Alike (l m : Log) (c d : ℕ) : Type 0 where
  pub left : c < l.setting.columns
  pub right : d < m.setting.columns
  pub stepped : step_exponent l ≡ step_exponent m
  pub same : SameTerms (terms l c) (terms m d)

-- whatever run holds a log, its columns read as the columns of s that are alike
abbrev pub ReadsAlike : Log → State → Type 0
ReadsAlike l s = (m : Log) (t : State) → Holds m t → (c d : ℕ) → Alike l m c d → reading s c ≡ reading t d
