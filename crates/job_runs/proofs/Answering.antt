-- Lists of answers, and whether one of them is a refusal.
use Rattle.std.proofs.Common.{◌≡◌, List, [], ◌∷◌, ◌++◌, Some, None, Ok, Err, Option, refl}
use Rattle.refusals.specs.declared.Refusal.{Refusal}
use Rattle.refusals.specs.Refusing.{first, answer}
use Rattle.refusals.proofs.Refusing.{none_some}
use Rattle.runs.specs.declared.Reading.{Reading}
use Rattle.calls.specs.Lists.{Answer}
use Rattle.job_runs.specs.Readings.{first_refusal}

-- the first refusal of two lists of answers, one behind the other
pub first_append : (given more : List Answer) → first_refusal (given ++ more) ≡ first (first_refusal given) (first_refusal more)
first_append [] more = refl
first_append (Ok told ∷ given) more = first_append given more
first_append (Err r ∷ given) more = refl

-- that of a call by its checks, and of the calls behind it
pub first_cons : (o : Option Refusal) (told : Option Reading) (given : List Answer) → first_refusal (answer o told ∷ given) ≡ first o (first_refusal given)
first_cons None told given = refl
first_cons (Some r) told given = refl

-- neither of two lists of answers has a refusal
pub none_append : (given more : List Answer) → first_refusal (given ++ more) ≡ None → (first_refusal given ≡ None) × (first_refusal more ≡ None)
none_append [] more e = (refl, e)
none_append (Ok told ∷ given) more e = none_append given more e
none_append (Err r ∷ given) more e = absurd (none_some e refl)

-- a call that is not refused, and the calls behind it
pub none_cons : (o : Option Refusal) (told : Option Reading) (given : List Answer) → first_refusal (answer o told ∷ given) ≡ None → (o ≡ None) × (first_refusal given ≡ None)
none_cons None told given e = (refl, e)
none_cons (Some r) told given e = absurd (none_some e refl)
