-- What working a list is to show, from its parts.
use Rattle.std.proofs.Common.{◌≡◌, ℕ, List, Some, None, Ok, Err, vec_items, Option, Result, refl, ap, arith}
use Rattle.std.specs.declared.alloc.AllocError.{AllocError}
use Rattle.formats.specs.Coding.{Coding}
use Rattle.units.specs.Meaning.{Meaning}
use Rattle.runs.specs.Log.{Log, Event, Holds}
use Rattle.runs.proofs.Alike.{reads_alike}
use Rattle.runs.proofs.Holding.{sound}
use Rattle.calls.specs.declared.error.Misplaced.{Misplaced}
use Rattle.calls.specs.declared.error.WorkError.{WorkError}
use Rattle.calls.specs.declared.error.WorkError.TheVariants as error
use Rattle.calls.specs.declared.Worked.{Worked}
use Rattle.calls.specs.Lists.{answers_to, log_after}
use Rattle.calls.specs.Work.{state_of, placed, WorkBy, AlikeWhereWorked}

-- no call is misplaced
pub well_placed : (o : Option ℕ) → Ok tt ≡ placed o → o ≡ None
well_placed None e = refl
well_placed (Some place) e = let z : ◌≡◌ {A = ℕ} 0 1 = cc in absurd (omega arith)

module _ {F U W : Type 0} (coding : F → Coding W) (meaning : U → Meaning) (before : Log) (events : List Event) where
  -- a list that is kept out
  pub kept_out : (o : Option ℕ) (m : Misplaced) → Err m ≡ placed o → WorkBy {F = F} {U = U} coding meaning before events o (Err (error.Misplaced m))
  kept_out None m e = let z : ◌≡◌ {A = ℕ} 0 1 = cc in absurd (omega arith)
  kept_out (Some place) m e = let same : m ≡ record { call = place } = cc in ap (λ (x : Misplaced). x.call) same

  -- a list in which no call is misplaced, for which memory ran out
  pub out_of_memory : (o : Option ℕ) (e : AllocError) → o ≡ None → WorkBy {F = F} {U = U} coding meaning before events o (Err (error.Memory e))
  out_of_memory None e none = tt
  out_of_memory (Some place) e none = let z : ◌≡◌ {A = ℕ} 0 1 = cc in absurd (omega arith)

  -- a list that is worked
  pub worked : (o : Option ℕ) (w : Worked F U) → o ≡ None → vec_items w.answers ≡ answers_to before events → Holds (log_after before events) (state_of coding meaning w.run) → WorkBy coding meaning before events o (Ok w)
  worked None w e answers holds = record { answers = answers; holds = holds; sound = sound _ _ holds; alike = reads_alike _ _ holds }
  worked (Some place) w e answers holds = let z : ◌≡◌ {A = ℕ} 0 1 = cc in absurd (omega arith)

-- two lists, worked each on a run of its own
module _ {F U W G V X : Type 0} (f : F → Coding W) (u : U → Meaning) (g : G → Coding X) (v : V → Meaning) (before other : Log) (events others : List Event) where
  pub both_alike : (o p : Option ℕ) (r : Result (Worked F U) WorkError) (t : Result (Worked G V) WorkError) → WorkBy f u before events o r → WorkBy g v other others p t
      → AlikeWhereWorked f u g v (log_after before events) (log_after other others) r t
  both_alike None None (Ok a) (Ok b) left right = λ c d same. left.alike _ _ right.holds c d same
  both_alike None (Some place) (Ok a) (Ok b) left right = absurd right
  both_alike (Some place) p (Ok a) (Ok b) left right = absurd left
  both_alike o p (Ok a) (Err e) left right = tt
  both_alike o p (Err e) t left right = tt
