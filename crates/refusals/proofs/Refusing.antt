-- From checks to answers, and back.
use Rattle.std.proofs.Common.{◌≡◌, ℕ, Bool, true, false, Some, None, Ok, Err, Option, Result, IsOk, sym, refl, ap, ◌∙◌, subst, arith}
use Rattle.refusals.specs.declared.Refusal.{Refusal}
use Rattle.refusals.specs.Refusing.{refuse, first, answer, unless, Made}

-- no check refuses where some check does
pub none_some : {o : Option Refusal} {r : Refusal} → o ≡ None → o ≡ Some r → ⊥
none_some none some = let z : ◌≡◌ {A = ℕ} 0 1 = cc in omega arith

-- ---- from checks to answers
pub refused : {X : Type 0} {o : Option Refusal} {e : Refusal} (x : X) → o ≡ Some e → Err e ≡ answer o x
refused x h = sym (ap (λ o. answer o x) h)

pub accepted : {X : Type 0} {o : Option Refusal} {x y : X} → o ≡ None → y ≡ x → Ok y ≡ answer o x
accepted {x = x} h e = ap Ok e ∙ sym (ap (λ o. answer o x) h)

pub made : {X : Type 0} (o : Option Refusal) (P : X → Type 0) (x : X) → o ≡ None → P x → Made o P (Ok x)
made None P x e p = p
made (Some r) P x e p = absurd (none_some e refl)

pub unmade : {X : Type 0} (o : Option Refusal) (P : X → Type 0) (r : Refusal) → o ≡ Some r → Made o P (Err r)
unmade None P r e = absurd (none_some refl e)
unmade (Some s) P r e = cc

-- ---- from checks to what is left
pub kept : {X : Type 0} {o : Option Refusal} {r : Refusal} (old new : X) → o ≡ Some r → old ≡ unless o old new
kept old new h = sym (ap (λ o. unless o old new) h)

pub changed : {X : Type 0} {o : Option Refusal} (old new : X) → o ≡ None → new ≡ unless o old new
changed old new h = sym (ap (λ o. unless o old new) h)

-- ---- and back
pub when_ok : {X : Type 0} (o : Option Refusal) (x y : X) → Ok y ≡ answer o x → (o ≡ None) × (y ≡ x)
when_ok None x y e = (refl, cc)
when_ok (Some r) x y e = let z : ◌≡◌ {A = ℕ} 0 1 = cc in absurd (omega arith)

pub when_err : {X : Type 0} (o : Option Refusal) (x : X) (r : Refusal) → Err r ≡ answer o x → o ≡ Some r
when_err None x r e = let z : ◌≡◌ {A = ℕ} 0 1 = cc in absurd (omega arith)
when_err (Some s) x r e = cc

pub was_made : {X : Type 0} (o : Option Refusal) (P : X → Type 0) (x : X) → Made o P (Ok x) → (o ≡ None) × P x
was_made None P x m = (refl, m)
was_made (Some r) P x m = absurd m

pub was_refused : {X : Type 0} (o : Option Refusal) (P : X → Type 0) (r : Refusal) → Made o P (Err r) → o ≡ Some r
was_refused None P r m = absurd m
was_refused (Some s) P r m = ap Some (sym m)

pub made_ok : {X : Type 0} (o : Option Refusal) (P : X → Type 0) (r : Result X Refusal) → o ≡ None → Made o P r → IsOk r
made_ok None P (Ok x) e m = refl
made_ok None P (Err r) e m = absurd m
made_ok (Some s) P r e m = absurd (none_some e refl)

pub when_made : {X : Type 0} (o : Option Refusal) (P : X → Type 0) (r : Result X Refusal) (x : X) → r ≡ Ok x → Made o P r → (o ≡ None) × P x
when_made o P r x is m = was_made o P x (subst (λ (y : Result _ Refusal). Made o P y) is m)

-- ---- one check after another
pub first_refuses : {o : Option Refusal} {r : Refusal} (later : Option Refusal) → o ≡ Some r → first o later ≡ Some r
first_refuses later e = ap (λ o. first o later) e

pub first_passes : {o : Option Refusal} (later : Option Refusal) → o ≡ None → first o later ≡ later
first_passes later e = ap (λ o. first o later) e

-- a check that is passed, and those behind it
pub passed : (met : Bool) (r : Refusal) (later : Option Refusal) → first (refuse met r) later ≡ None → (met ≡ false) × (later ≡ None)
passed true r later e = absurd (none_some e refl)
passed false r later e = (refl, e)

pub both_passed : (o later : Option Refusal) → first o later ≡ None → (o ≡ None) × (later ≡ None)
both_passed None later e = (refl, e)
both_passed (Some r) later e = absurd (none_some e refl)

pub first_assoc : (o p q : Option Refusal) → first o (first p q) ≡ first (first o p) q
first_assoc None p q = refl
first_assoc (Some r) p q = refl

pub first_none : (o : Option Refusal) → first o None ≡ o
first_none None = refl
first_none (Some r) = refl

-- the checks behind a check matter only where it is passed
pub same_behind : (o p q : Option Refusal) → (o ≡ None → p ≡ q) → first o p ≡ first o q
same_behind None p q same = same refl
same_behind (Some r) p q same = refl
