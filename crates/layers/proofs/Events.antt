-- What every list of events keeps, and what it makes of a layer that each call changes as a unit.
use Rattle.std.specs.Prelude.{◌≡◌, List, [], ◌∷◌, ℤ, refl}
use Rattle.std.proofs.Common.{ap, ◌∙◌}
use Rattle.units.specs.Meaning.{Meaning, after_add, cleared}
use Rattle.layers.specs.Layer.{Event, Add, Clear, after, unit_after}

module _ {S : Type 0} (add : S → ℤ → List ℤ → S) (clear : S → S) (Kept : S → Type 0) (add-keeps : (s : S) (a : ℤ) (ws : List ℤ) → Kept s → Kept (add s a ws)) (clear-keeps : (s : S) → Kept s → Kept (clear s)) where
  pub after_keeps : (s : S) (events : List Event) → Kept s → Kept (after add clear s events)
  after_keeps s [] kept = kept
  after_keeps s (Add a ws ∷ events) kept = after_keeps (add s a ws) events (add-keeps s a ws kept)
  after_keeps s (Clear ∷ events) kept = after_keeps (clear s) events (clear-keeps s kept)

  module _ (means : S → Meaning) (adds : (s : S) (a : ℤ) (ws : List ℤ) → Kept s → means (add s a ws) ≡ after_add (means s) a ws) (clears : (s : S) → means (clear s) ≡ cleared (means s)) where
    pub as_single : (s : S) (events : List Event) → Kept s → means (after add clear s events) ≡ unit_after (means s) events
    as_single s [] kept = refl
    as_single s (Add a ws ∷ events) kept = as_single (add s a ws) events (add-keeps s a ws kept) ∙ ap (λ m. unit_after m events) (adds s a ws kept)
    as_single s (Clear ∷ events) kept = as_single (clear s) events (clear-keeps s kept) ∙ ap (λ m. unit_after m events) (clears s)
