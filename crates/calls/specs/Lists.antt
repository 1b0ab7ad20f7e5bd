-- Lists of calls: which of them a run allows, and what each answers by the log.
use Rattle.std.specs.Prelude.{ℕ, ◌+◌, Bool, true, false, cond, not, List, [], ◌∷◌, Some, None, Ok, Option, Result}
use Rattle.refusals.specs.declared.Refusal.{Refusal}
use Rattle.refusals.specs.Refusing.{answer}
use Rattle.runs.specs.Log.{Log, Event, survey, fix, feed, read, clear, refusal, after, reading_of}
use Rattle.runs.specs.declared.Reading.{Reading}

-- whether a run that is aligned, or not, allows a call: a surveying run is surveyed and fixed, an aligned one fed, read and cleared
abbrev pub allowed : Bool → Event → Bool
allowed aligned (survey words) = not aligned
allowed aligned fix = not aligned
allowed aligned (feed words sheet) = aligned
allowed aligned (read column) = aligned
allowed aligned clear = aligned

-- whether the run is aligned after an allowed call
abbrev pub aligned_after : Event → Bool
aligned_after (survey words) = false
aligned_after fix = true
aligned_after (feed words sheet) = true
aligned_after (read column) = true
aligned_after clear = false

-- whether the run is aligned after a call, if it allows it
abbrev pub leads : Bool → Event → Option Bool
leads aligned e = cond (allowed aligned e) (Some (aligned_after e)) None

-- the first call that the run's state would not allow, the calls being counted on from `place`
abbrev pub misplaced : ℕ → Bool → List Event → Option ℕ
misplaced place aligned [] = None
misplaced place aligned (e ∷ es) = cond (allowed aligned e) (misplaced (place + 1) (aligned_after e) es) (Some place)

-- what a call answers: a refusal, a reading, or that it is done
abbrev pub Answer : Type 0
Answer = Result (Option Reading) Refusal

-- what a call answers by the log: its refusal, or else an accepted read the reading of the terms accepted up to it, every
-- other accepted call nothing
abbrev pub answer_to : Log → Event → Answer
answer_to l (survey words) = answer (refusal l (survey words)) None
answer_to l fix = Ok None
answer_to l (feed words sheet) = answer (refusal l (feed words sheet)) None
answer_to l (read column) = answer (refusal l (read column)) (Some (reading_of l column))
answer_to l clear = Ok None

-- what the calls of a list answer, each by the log that the calls before it left
abbrev pub answers_to : Log → List Event → List Answer
answers_to l [] = []
answers_to l (e ∷ es) = answer_to l e ∷ answers_to (after l e) es

-- the log after a list of calls
abbrev pub log_after : Log → List Event → Log
log_after l [] = l
log_after l (e ∷ es) = log_after (after l e) es
