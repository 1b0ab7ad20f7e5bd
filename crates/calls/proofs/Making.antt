-- A call is made as the log says.
use Rattle.std.proofs.Common.{◌≡◌, Some, None, Ok, Err, Option, Result, sym, ap, ◌∙◌, subst}
use Rattle.std.specs.Result.{MatchResult}
use Rattle.refusals.specs.declared.Refusal.{Refusal}
use Rattle.refusals.specs.Refusing.{answer, verdict}
use Rattle.formats.specs.Coding.{Coding}
use Rattle.sheets.specs.Page.{Page}
use Rattle.units.specs.Meaning.{Meaning}
use Rattle.runs.specs.State.{State}
use Rattle.runs.specs.Log.{Log, Event, Holds, Logged, refusal, after}
use Rattle.calls.specs.declared.Call.{Call}
use Rattle.calls.specs.declared.Run.{Run}
use Rattle.calls.specs.Lists.{Answer}
use Rattle.calls.specs.Work.{event_of, state_of, format_of, Follows}

-- a call that has nothing to answer but what its checks gave
pub mapped : (o : Option Refusal) (r : Result (Unit {0}) Refusal) (a : Answer) (P : Unit {0} → Type 0) → r ≡ verdict o → (P tt → a ≡ Ok None) → MatchResult r P (λ e. a ≡ Err e) → a ≡ answer o None
mapped None r a P is done cases = done (subst (λ (x : Result (Unit {0}) Refusal). MatchResult x P (λ e. a ≡ Err e)) is cases)
mapped (Some e) r a P is done cases = subst (λ (x : Result (Unit {0}) Refusal). MatchResult x P (λ e. a ≡ Err e)) is cases

-- that a call is made as the log says, whichever names the run and the call go by
pub follows_at : {F U W S : Type 0} (coding : F → Coding W) (meaning : U → Meaning) (page : S → Page) (self run : Run F U) (given call : Call W S) (a : Answer) (t : State)
    → self ≡ run → given ≡ call → Follows (event_of (coding (format_of run)) page call) (state_of coding meaning run) a t → Follows (event_of (coding (format_of self)) page given) (state_of coding meaning self) a t
follows_at coding meaning page self run given call a t p q m =
    subst (λ (r : Run _ _). Follows (event_of (coding (format_of r)) page given) (state_of coding meaning r) a t) (sym p)
    (subst (λ (k : Call _ _). Follows (event_of (coding (format_of run)) page k) (state_of coding meaning run) a t) (sym q) m)

-- a call whose answer is that of its checks
pub follows : (e : Event) (s t : State) (a : Answer) (o : Option Refusal) → a ≡ answer o None → Logged e s t o → (l : Log) → Holds l s → (a ≡ answer (refusal l e) None) × Holds (after l e) t
follows e s t a o is logged l h = let k = logged l h in (is ∙ ap (λ x. answer x None) (sym k.0), k.1)
