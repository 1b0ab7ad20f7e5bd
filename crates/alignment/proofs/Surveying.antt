-- A tile's words one by one: those that are left decide.
use Rattle.std.proofs.Common.{◌≡◌, ℕ, ◌+◌, ◌<◌, ◌≤◌, ◌⊎◌, List, [], ◌∷◌, map, length, get_or, drop, Contains, ℤ, pos, neg_ℤ, ◌≤ℤ◌, IfSome, Some, None, Option, sym, refl, ap, ◌∙◌, inl, inr, ⊎_elim, arith}
use lib.Signed.{lt_z}
use Rattle.std.specs.Int.{int_max}
use Rattle.std.proofs.lemmas.List.{drop_more, drop-map, drop_all, length-map}
use Rattle.std.proofs.lemmas.List.Elements.{Contains-append_right}
use Rattle.std.proofs.lemmas.Int.{ints, clamps}
use Rattle.std.proofs.lemmas.Bool.{le-ltb, cond_both}
use Rattle.refusals.specs.declared.Refusal.{Refusal}
use Rattle.refusals.specs.declared.Refusal.TheVariants.{NotFinite, TooManyWords}
use Rattle.refusals.specs.Refusing.{refuse, first}
use Rattle.formats.specs.Coding.{Decoded, Coding, Shaped, Lawful}
use Rattle.alignment.specs.Tile.{Tile, length_check, not_finite, largest, Largest}

-- ---- the length
pub few_enough : {W : Type 0} (f : W → Option Decoded) (ws : List W) (later : Option Refusal) → length ws ≤ 128 → first (length_check (map f ws)) later ≡ later
few_enough f ws later h = ap (λ b. first (refuse b TooManyWords) later) (le-ltb 128 (length (map f ws)) (rw length-map h))

-- ---- word by word
module _ {W : Type 0} (f : W → Option Decoded) (ws : List W) (i : ℕ) where
  pub tile_at : (w : W) → i < length ws → w ≡ get_or ws i w → drop i (map f ws) ≡ f w ∷ drop (i + 1) (map f ws)
  tile_at w h e =
      drop-map f i ws ∙ ap (map f) (drop_more ws i w h) ∙ ap (λ x. f x ∷ map f (drop (i + 1) ws)) (sym e)
      ∙ ap (λ ts. f w ∷ ts) (sym (drop-map f (i + 1) ws))

  pub tile_all : length ws ≤ i → drop i (map f ws) ≡ []
  tile_all h = drop-map f i ws ∙ ap (map f) (drop_all i ws h)

module _ {W : Type 0} (f : W → Option Decoded) (ws : List W) (i : ℕ) (w : W) (h : i < length ws) (at : w ≡ get_or ws i w) where
  pub finite_more : (d : Decoded) → f w ≡ Some d → not_finite i (drop i (map f ws)) ≡ not_finite (i + 1) (drop (i + 1) (map f ws))
  finite_more d e = ap (not_finite i) (tile_at f ws i w h at) ∙ ap (λ o. not_finite i (o ∷ drop (i + 1) (map f ws))) e

  pub finite_here : f w ≡ None → not_finite i (drop i (map f ws)) ≡ Some (NotFinite i)
  finite_here e = ap (not_finite i) (tile_at f ws i w h at) ∙ ap (λ o. not_finite i (o ∷ drop (i + 1) (map f ws))) e

  pub largest_more : (m : ℤ) (d : Decoded) → f w ≡ Some d → largest m (drop i (map f ws)) ≡ largest (int_max m d.2) (drop (i + 1) (map f ws))
  largest_more m d e = ap (largest m) (tile_at f ws i w h at) ∙ ap (λ o. largest m (o ∷ drop (i + 1) (map f ws))) e

-- ---- what the largest exponent is
max_either : (m e : ℤ) → (int_max m e ≡ m) ⊎ (int_max m e ≡ e)
max_either m e = cond_both (lt_z e m) m e (λ z. (z ≡ m) ⊎ (z ≡ e)) (λ _. inl refl) (λ _. inr refl)

pub is_largest : (m : ℤ) (ts : Tile) → Largest m ts (largest m ts)
is_largest m [] = record { from = omega (arith, ints); above = tt; reached = inl refl }
is_largest m (None ∷ ts) =
    let rest = is_largest m ts in
    record {
      from = rest.from;
      above = (tt, rest.above);
      reached = ⊎_elim inl (λ h. inr (h.0, (Contains-append_right (None ∷ []) ts (Some h.0) h.1.0, h.1.1))) rest.reached;
    }
is_largest m (Some d ∷ ts) =
    let top = largest (int_max m d.2) ts in
    let rest = is_largest (int_max m d.2) ts in
    let here : top ≡ d.2 → (top ≡ m) ⊎ ((e : Decoded) × (Contains (Some d ∷ ts) (Some e) × (e.2 ≡ top))) = λ is. inr (d, ((0, omega arith, refl), sym is)) in
    record {
      from = omega (arith, ints, clamps, rest.from);
      above = (omega (arith, ints, clamps, rest.from), rest.above);
      reached =
          ⊎_elim
          (λ is. ⊎_elim (λ left. inl (is ∙ left)) (λ right. here (is ∙ right)) (max_either m d.2))
          (λ h. inr (h.0, (Contains-append_right (Some d ∷ []) ts (Some h.0) h.1.0, h.1.1)))
          rest.reached;
    }

-- ---- it stays in the range of exponents
abbrev Ranged : ℤ → Type 0
Ranged z = (neg_ℤ (pos 400) ≤ℤ z) × (z ≤ℤ pos 400)

higher : (m e : ℤ) → Ranged m → Ranged e → Ranged (int_max m e)
higher m e h k = cond_both (lt_z e m) m e Ranged (λ _. h) (λ _. k)

pub largest_ranged : {W : Type 0} (f : Coding W) → Lawful f → (ws : List W) (m : ℤ) → Ranged m → Ranged (largest m (map f.decode ws))
largest_ranged f law [] m h = h
largest_ranged f law (w ∷ ws) m h = by_word (f.decode w) (law.shaped w) (largest_ranged f law ws)
  where
    by_word : (o : Option Decoded) → IfSome o (Shaped f) → ((k : ℤ) → Ranged k → Ranged (largest k (map f.decode ws))) → Ranged (largest m (o ∷ map f.decode ws))
    by_word None c rest = rest m h
    by_word (Some d) c rest = rest (int_max m d.2) (higher m d.2 h (omega (arith, ints, law.low, c.from_least), omega (arith, ints, c.to_greatest, law.high)))
