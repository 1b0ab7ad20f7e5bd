-- What working a list of calls gives.
use Rattle.std.specs.Prelude.{◌≡◌, ℕ, Bool, true, false, List, map, Some, None, Ok, Err, vec_items, Option, Result}
use Rattle.formats.specs.Coding.{Coding}
use Rattle.alignment.specs.Tile.{tile_of}
use Rattle.sheets.specs.Page.{Page}
use Rattle.units.specs.Meaning.{Meaning}
use Rattle.runs.specs.Checks.{setting}
use Rattle.runs.specs.State.{State, reading}
use Rattle.runs.specs.Log.{Log, Event, survey, fix, feed, read, clear, empty, after, Holds, Sound, Alike, ReadsAlike}
use Rattle.runs.specs.Runs.{surveying, aligned}
use Rattle.calls.specs.declared.Call.{Call}
use Rattle.calls.specs.declared.Call.TheVariants as call
use Rattle.calls.specs.declared.Run.{Run}
use Rattle.calls.specs.declared.Run.TheVariants as run
use Rattle.calls.specs.declared.Opening.{Opening}
use Rattle.calls.specs.declared.error.Misplaced.{Misplaced}
use Rattle.calls.specs.declared.error.WorkError.{WorkError}
use Rattle.calls.specs.declared.error.WorkError.TheVariants as error
use Rattle.calls.specs.declared.Worked.{Worked}
use Rattle.calls.specs.Lists.{Answer, misplaced, answer_to, answers_to, log_after}

-- a call of the code as an event: its words decoded by the format, its sheet by what it means
abbrev pub event_of : {W S : Type 0} → Coding W → (S → Page) → Call W S → Event
event_of f page (call.Survey words) = survey (tile_of f words.now)
event_of f page call.Fix = fix
event_of f page (call.Feed words sheet) = feed (tile_of f words.now) (page sheet)
event_of f page (call.Read column) = read column
event_of f page call.Clear = clear

-- what a run holds, in either state
abbrev pub state_of : {F U W : Type 0} → (F → Coding W) → (U → Meaning) → Run F U → State
state_of coding meaning (run.Surveying r) = surveying coding meaning r
state_of coding meaning (run.Aligned r) = aligned coding meaning r

-- the format of a run, in either state
abbrev pub format_of : {F U : Type 0} → Run F U → F
format_of (run.Surveying r) = r.format
format_of (run.Aligned r) = r.format

-- whether a run is aligned
abbrev pub is_aligned : {F U : Type 0} → Run F U → Bool
is_aligned (run.Surveying r) = false
is_aligned (run.Aligned r) = true

-- what the check of the places answers
abbrev pub placed : Option ℕ → Result (Unit {0}) Misplaced
placed None = Ok tt
placed (Some place) = Err (record { call = place })

-- A call found a run at s, answered a, and left it at t: whatever log the run had, the answer is the log's, and the run goes
-- on with the log after the call.
abbrev pub Follows : Event → State → Answer → State → Type 0
Follows e s a t = (l : Log) → Holds l s → (a ≡ answer_to l e) × Holds (after l e) t

-- What calls give that were made in turn on a run of this log: every call's answer is the log's, and the run holds the log
-- after them. So in each column the total and the slack tell where the exact sum of the accepted terms lies, and any run
-- with one step whose column accepted the same terms, each as often, reads the same there.
pub record WorkedAs (before : Log) (events : List Event) (given : List Answer) (s : State) : Type 0 where
  pub answers : given ≡ answers_to before events
  pub holds : Holds (log_after before events) s
  pub sound : Sound (log_after before events) s
  pub alike : ReadsAlike (log_after before events) s

-- the log of a run that was just opened on a format, a unit and extra bits
abbrev pub opened_log : {F U W : Type 0} → (F → Coding W) → (U → Meaning) → Opening F U → Log
opened_log coding meaning o = empty (setting (coding o.format).least o.extra.bits (meaning o.unit))

-- the calls as events, on a run that was opened so
abbrev pub events_of : {F U W S : Type 0} → (F → Coding W) → (S → Page) → Opening F U → List (Call W S) → List Event
events_of coding page o calls = map (event_of (coding o.format) page) calls

-- by whether a call is misplaced: that is told and nothing is worked, or the list is worked unless memory runs out
abbrev pub WorkBy : {F U W : Type 0} → (F → Coding W) → (U → Meaning) → Log → List Event → Option ℕ → Result (Worked F U) WorkError → Type 0
WorkBy coding meaning before events None (Ok w) = WorkedAs before events (vec_items w.answers) (state_of coding meaning w.run)
WorkBy coding meaning before events None (Err (error.Misplaced m)) = ⊥
WorkBy coding meaning before events None (Err (error.Memory e)) = Unit {0}
WorkBy coding meaning before events (Some place) (Ok w) = ⊥
WorkBy coding meaning before events (Some place) (Err (error.Misplaced m)) = m.call ≡ place
WorkBy coding meaning before events (Some place) (Err (error.Memory e)) = ⊥

-- what working a list gives on a run that is opened for it: where a call is misplaced, its place, and nothing is worked
abbrev pub WorkOf : {F U W S : Type 0} → (F → Coding W) → (U → Meaning) → (S → Page) → Opening F U → List (Call W S) → Result (Worked F U) WorkError → Type 0
WorkOf coding meaning page o calls r = WorkBy coding meaning (opened_log coding meaning o) (events_of coding page o calls) (misplaced 0 false (events_of coding page o calls)) r

-- where two lists were worked: in a column of each that have one step and the same terms, each as often, the runs read alike
abbrev pub AlikeWhereWorked : {F U W G V X : Type 0} → (F → Coding W) → (U → Meaning) → (G → Coding X) → (V → Meaning) → Log → Log → Result (Worked F U) WorkError → Result (Worked G V) WorkError → Type 0
AlikeWhereWorked f u g v l m (Ok a) (Ok b) = (c d : ℕ) → Alike l m c d → reading (state_of f u a.run) c ≡ reading (state_of g v b.run) d
AlikeWhereWorked f u g v l m (Ok a) (Err e) = Unit {0}
AlikeWhereWorked f u g v l m (Err e) b = Unit {0}
