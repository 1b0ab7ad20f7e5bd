-- A job that was worked, and its listing.
use Rattle.std.proofs.Common.{◌≡◌, ℕ, ◌≤◌, true, false, List, length, ℤ, None, Ok, Err, vec_items, Result, Vec, sym, refl, ap, ◌∙◌, subst, arith}
use Rattle.std.proofs.lemmas.List.FromFn.{length-map-range_with_len}
use Rattle.std.proofs.lemmas.Bool.Decides.{nat_tests}
use Rattle.std.specs.List.{AllByRecursion}
use Rattle.std.specs.declared.alloc.Global.{Global}
use Rattle.columns.specs.Columns.{columns_check}
use Rattle.refusals.specs.Refusing.{Made}
use Rattle.refusals.proofs.Refusing.{made, was_made}
use Rattle.formats.specs.Coding.{Coding}
use Rattle.alignment.specs.Tile.{Tile, tile_of}
use Rattle.sheets.specs.Meanings.{AnySheet, any_meaning}
use Rattle.units.specs.Meaning.{Meaning}
use Rattle.runs.specs.declared.Reading.{Reading}
use Rattle.runs.specs.Checks.{Setting, setting}
use Rattle.runs.specs.Log.{Event, empty}
use Rattle.runs.specs.State.{State}
use Rattle.calls.specs.declared.Call.{Call}
use Rattle.calls.specs.declared.error.Misplaced.{Misplaced}
use Rattle.calls.specs.declared.error.WorkError.{WorkError}
use Rattle.calls.specs.declared.error.WorkError.TheVariants as error
use Rattle.calls.specs.declared.Opening.{Opening}
use Rattle.calls.specs.declared.Run.{Run}
use Rattle.calls.specs.declared.Run.TheVariants as run
use Rattle.calls.specs.declared.Worked.{Worked}
use Rattle.calls.specs.Lists.{Answer, misplaced}
use Rattle.calls.specs.Work.{WorkedAs, WorkBy, WorkOf, is_aligned, opened_log, state_of}
use Rattle.listing.specs.declared.Line.{Line}
use Rattle.jobs.specs.declared.plan.Plan.{Plan}
use Rattle.job_runs.specs.declared.material.Material.{Material}
use Rattle.job_runs.specs.Parts.{Fair, job_setting}
use Rattle.job_runs.specs.Events.{events_of, job_events, job_answers}
use Rattle.job_runs.specs.Readings.{first_refusal, readings, lines_from}
use Rattle.job_runs.specs.Listing.{Told, Lists}
use Rattle.job_runs.proofs.Columns.{job_reading, job_readings, job_lines, lines_tell, last_shared, last_aligned}
use Rattle.job_runs.proofs.Placing.{none_misplaced}

few : (columns : ℕ) → columns_check columns ≡ None → columns ≤ 16
few columns ok = grind (arith, nat_tests)

pub stage_is : {F U W : Type 0} (coding : F → Coding W) (meaning : U → Meaning) (r : Run F U) → is_aligned r ≡ (state_of coding meaning r).aligned
stage_is coding meaning (run.Surveying r) = refl
stage_is coding meaning (run.Aligned r) = refl

-- the calls of a job were worked, with these answers, and left a run at s
pub record JobWorked (p : Plan) (words : Tile) (sheets : List ℕ) (given : List Answer) (s : State) : Type 0 where
  worked : WorkedAs (empty (job_setting p)) (job_events p words sheets) given s

-- calls that a job asks for, on a run that is opened as its plan says
module _ {F U W : Type 0} (coding : F → Coding W) (meaning : U → Meaning) (o : Opening F U) (m : Material W) (calls asked_for : List (Call W AnySheet)) (lent : calls ≡ asked_for)
    (asking : (f : Coding W) → events_of f asked_for ≡ job_events m.plan (tile_of f m.words.now) m.weights.now)
    (opened : setting (coding o.format).least o.extra.bits (meaning o.unit) ≡ job_setting m.plan) where
  abbrev words : Tile
  words = tile_of (coding o.format) m.words.now

  asked : events_of (coding o.format) calls ≡ job_events m.plan words m.weights.now
  asked = ap (events_of (coding o.format)) lent ∙ asking (coding o.format)

  placed_so : (r : Result (Worked F U) WorkError) → WorkOf coding meaning any_meaning o calls r → WorkBy coding meaning (opened_log coding meaning o) (events_of (coding o.format) calls) None r
  placed_so r works =
      let placed = ap (misplaced 0 false) asked ∙ none_misplaced m.plan words m.weights.now in
      subst (λ q. WorkBy coding meaning (opened_log coding meaning o) (events_of (coding o.format) calls) q r) placed works

  pub never_misplaced : (e : WorkError) (at : Misplaced) → e ≡ error.Misplaced at → WorkOf coding meaning any_meaning o calls (Err e) → ⊥
  never_misplaced e at is works = placed_so (Err (error.Misplaced at)) (subst (λ (x : WorkError). WorkOf coding meaning any_meaning o calls (Err x)) is works)

  pub job_worked : (w : Worked F U) → WorkOf coding meaning any_meaning o calls (Ok w) → (given : List Answer) → given ≡ vec_items w.answers
      → JobWorked m.plan words m.weights.now given (state_of coding meaning w.run)
  job_worked w works given all = record {
    worked =
        subst (λ (es : List Event). WorkedAs (empty (job_setting m.plan)) es given (state_of coding meaning w.run)) asked
        (subst (λ (z : Setting). WorkedAs (empty z) (events_of (coding o.format) calls) given (state_of coding meaning w.run)) opened
        (subst (λ (answers : List Answer). WorkedAs (opened_log coding meaning o) (events_of (coding o.format) calls) answers (state_of coding meaning w.run)) (sym all) (placed_so (Ok w) works)));
  }

-- and no call was refused, so that there are readings
module _ {p : Plan} {words : Tile} {sheets : List ℕ} {given : List Answer} {s : State} (job : JobWorked p words sheets given s)
    (v : Vec Reading Global) (told : Made (first_refusal given) (λ w. vec_items w ≡ readings given) (Ok v)) where
  read : (first_refusal given ≡ None) × (vec_items v ≡ readings given)
  read = was_made (first_refusal given) (λ w. vec_items w ≡ readings given) v told

  none : first_refusal (job_answers p words sheets) ≡ None
  none = ap first_refusal (sym job.worked.answers) ∙ read.0

  pub aligned_then : s.aligned ≡ true
  aligned_then = job.worked.holds.stage ∙ last_aligned p words sheets none

  module _ (rs : List Reading) (all : rs ≡ vec_items v) where
    same : rs ≡ readings (job_answers p words sheets)
    same = all ∙ read.1 ∙ ap readings job.worked.answers

    pub few_readings : Fair p → length rs ≤ 16
    few_readings fair =
        omega (arith, few p.columns fair.columns, ap length (same ∙ job_readings p words sheets none), length-map-range_with_len (job_reading p words sheets) 0 p.columns)

    pub job_listed : (shared : ℤ) → shared ≡ s.shared → (lines : Vec Line Global) → vec_items lines ≡ lines_from 0 rs
        → Made (first_refusal (job_answers p words sheets)) (Lists p words sheets) (Ok (record { header = record { rows = p.rows; shared = shared; extra = p.extra }; lines = lines }))
    job_listed shared is_shared lines is-lines =
        let lined = is-lines ∙ ap (lines_from 0) same ∙ job_lines p words sheets none in
        made (first_refusal (job_answers p words sheets)) _ _ none (record {
          headed = ap (λ (z : ℤ). record { rows = p.rows; shared = z; extra = p.extra }) (is_shared ∙ job.worked.holds.shared ∙ last_shared p words sheets none);
          lines = lined;
          told = subst (λ (ls : List Line). AllByRecursion (Told p words sheets) ls) (sym lined) (lines_tell p words sheets 0 p.columns);
        })
