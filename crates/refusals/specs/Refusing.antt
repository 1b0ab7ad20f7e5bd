-- The words for refusing. A call's checks give a refusal or none: the first check that is met decides, and a call that is
-- refused leaves everything as it was.
use Rattle.std.specs.Prelude.{◌≡◌, Bool, cond, Some, None, Ok, Err, Option, Result}
use Rattle.refusals.specs.declared.Refusal.{Refusal}

-- a check: its refusal where its condition is met
abbrev pub refuse : Bool → Refusal → Option Refusal
refuse met refusal = cond met (Some refusal) None

-- the first of two checks to refuse decides
abbrev pub first : Option Refusal → Option Refusal → Option Refusal
first None later = later
first (Some refusal) later = Some refusal

-- what a call answers by its checks: the refusal, or else x
abbrev pub answer : {X : Type 0} → Option Refusal → X → Result X Refusal
answer None x = Ok x
answer (Some refusal) x = Err refusal

-- the same where there is nothing else to answer
abbrev pub verdict : Option Refusal → Result (Unit {0}) Refusal
verdict checks = answer checks tt

-- what a call leaves by its checks: the old where it is refused, or else the new
abbrev pub unless : {X : Type 0} → Option Refusal → X → X → X
unless None old new = new
unless (Some refusal) old new = old

-- what a making call answers by its checks: the refusal, or else a value of which P holds
abbrev pub Made : {X : Type 0} → Option Refusal → (X → Type 0) → Result X Refusal → Type 0
Made None P (Ok x) = P x
Made None P (Err refusal) = ⊥
Made (Some check) P (Ok x) = ⊥
Made (Some check) P (Err refusal) = refusal ≡ check
