-- Lists of calls, one call after the other.
use Rattle.std.proofs.Common.{◌≡◌, ℕ, ◌+◌, ◌<◌, ◌≤◌, Bool, true, false, cond, List, [], ◌∷◌, ◌++◌, map, length, get_or, take, drop, Some, None, Option, sym, refl, ap, ◌∙◌, arith}
use Rattle.std.proofs.lemmas.List.{drop_more, drop-map, drop_all, map_more}
use Rattle.std.proofs.lemmas.Bool.{cond-true, cond-false}
use Rattle.runs.specs.Log.{Log, Event, after}
use Rattle.calls.specs.Lists.{allowed, aligned_after, leads, misplaced, answer_to, answers_to, log_after}

-- ---- one list of events behind another
pub log_append : (l : Log) (es fs : List Event) → log_after l (es ++ fs) ≡ log_after (log_after l es) fs
log_append l [] fs = refl
log_append l (e ∷ es) fs = log_append (after l e) es fs

pub answers_append : (l : Log) (es fs : List Event) → answers_to l (es ++ fs) ≡ answers_to l es ++ answers_to (log_after l es) fs
answers_append l [] fs = refl
answers_append l (e ∷ es) fs = ap (λ given. answer_to l e ∷ given) (answers_append (after l e) es fs)

-- ---- what a call leads to
where_led : (b x y : Bool) → Some x ≡ cond b (Some y) None → (b ≡ true) × (x ≡ y)
where_led true x y e = (refl, cc)
where_led false x y e = let z : ◌≡◌ {A = ℕ} 0 1 = cc in absurd (omega arith)

pub allowed_to : (aligned : Bool) (e : Event) (next : Bool) → Some next ≡ leads aligned e → (allowed aligned e ≡ true) × (next ≡ aligned_after e)
allowed_to aligned e next led = where_led (allowed aligned e) next (aligned_after e) led

where_kept : (b y : Bool) → ◌≡◌ {A = Option Bool} None (cond b (Some y) None) → b ≡ false
where_kept true y e = let z : ◌≡◌ {A = ℕ} 0 1 = cc in absurd (omega arith)
where_kept false y e = refl

pub not_allowed : (aligned : Bool) (e : Event) → None ≡ leads aligned e → allowed aligned e ≡ false
not_allowed aligned e led = where_kept (allowed aligned e) (aligned_after e) led

-- ---- the next call of a list
module _ {C : Type 0} (event : C → Event) (calls : List C) (i : ℕ) where
  module _ (call : C) (h : i < length calls) (at : call ≡ get_or calls i call) where
    next_event : drop i (map event calls) ≡ event call ∷ drop (i + 1) (map event calls)
    next_event =
        drop-map event i calls ∙ ap (map event) (drop_more calls i call h) ∙ ap (λ c. event c ∷ map event (drop (i + 1) calls)) (sym at)
        ∙ ap (λ es. event call ∷ es) (sym (drop-map event (i + 1) calls))

    one_more : map event (take (i + 1) calls) ≡ map event (take i calls) ++ event call ∷ []
    one_more = map_more event calls i call h ∙ ap (λ c. map event (take i calls) ++ event c ∷ []) (sym at)

    pub misplaced_more : (aligned : Bool) → allowed aligned (event call) ≡ true → misplaced i aligned (drop i (map event calls)) ≡ misplaced (i + 1) (aligned_after (event call)) (drop (i + 1) (map event calls))
    misplaced_more aligned ok = ap (misplaced i aligned) next_event ∙ cond-true _ _ _ ok

    pub misplaced_here : (aligned : Bool) → allowed aligned (event call) ≡ false → misplaced i aligned (drop i (map event calls)) ≡ Some i
    misplaced_here aligned no_place = ap (misplaced i aligned) next_event ∙ cond-false _ _ _ no_place

    -- a list that is well placed from here on: the call is allowed, and the rest is well placed
    pub misplaced_parts : (aligned : Bool) → misplaced i aligned (drop i (map event calls)) ≡ None
        → (allowed aligned (event call) ≡ true) × (misplaced (i + 1) (aligned_after (event call)) (drop (i + 1) (map event calls)) ≡ None)
    misplaced_parts aligned well = by (allowed aligned (event call)) (sym (ap (misplaced i aligned) next_event) ∙ well)
      where
        by : (b : Bool) → cond b (misplaced (i + 1) (aligned_after (event call)) (drop (i + 1) (map event calls))) (Some i) ≡ None
            → (b ≡ true) × (misplaced (i + 1) (aligned_after (event call)) (drop (i + 1) (map event calls)) ≡ None)
        by true e = (refl, e)
        by false e = let z : ◌≡◌ {A = ℕ} 0 1 = cc in absurd (omega arith)

    -- one call more, made at the log that the calls before it left
    pub log_more : (l : Log) → after (log_after l (map event (take i calls))) (event call) ≡ log_after l (map event (take (i + 1) calls))
    log_more l = sym (ap (log_after l) one_more ∙ log_append l (map event (take i calls)) (event call ∷ []))

    pub answers_more : (l : Log) → answers_to l (map event (take i calls)) ++ answer_to (log_after l (map event (take i calls))) (event call) ∷ [] ≡ answers_to l (map event (take (i + 1) calls))
    answers_more l = sym (ap (answers_to l) one_more ∙ answers_append l (map event (take i calls)) (event call ∷ []))

  pub misplaced_none : (aligned : Bool) → length calls ≤ i → misplaced i aligned (drop i (map event calls)) ≡ None
  misplaced_none aligned h = ap (misplaced i aligned) (drop-map event i calls ∙ ap (map event) (drop_all i calls h))
