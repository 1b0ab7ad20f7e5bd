-- A decoded number that is total times 2 to the power step, and its amount.
use Rattle.std.proofs.Common.{◌≡◌, ℕ, ◌*◌, ◌^◌, cond, ℤ, pos, negsuc, ◌*ℤ◌, neg_ℤ, nat_abs, ◌≤ℤ◌, sym, ap, ◌∙◌, mul_assoc, one-mul, mul_right_comm, pow_pos}
use native.Mathlib.Nat.{eq_of_mul-eq-mul_right}
use lib.Ieee.{up, down}
use lib.Ieee.Fits.{down_pos}
use Rattle.std.proofs.lemmas.Int.{unsigned_abs-mul}
use Rattle.formats.specs.Coding.{Decoded}
use Rattle.rounding.specs.Word.{below_zero}
use Rattle.rounding.specs.Nearest.{amount, exactly, Worth}
use Rattle.rounding.proofs.Fields.{amount_worth}

-- ---- the sign aside
signed_product : (total : ℤ) (a b : ℕ) → a ≡ nat_abs total * b → cond (below_zero total) (negsuc 0) (pos 1) *ℤ pos a ≡ total *ℤ pos b
signed_product (pos n) a b h = ap pos (one-mul a ∙ h)
signed_product (negsuc n) a b h = ap (λ (x : ℕ). neg_ℤ (pos x)) (one-mul a ∙ h)

module _ (total step : ℤ) (d : Decoded) (low : neg_ℤ (pos 149) ≤ℤ d.2) where
  abbrev e : ℤ
  e = d.2

  pub worth_amount : nat_abs d.0 ≡ 1 → Worth total step d → amount d * down step ≡ exactly total step
  worth_amount unit worth =
      let same : d.1 * up e * down step ≡ nat_abs total * (up step * down e) =
      sym (one-mul (d.1 * up e * down step))
      ∙ ap (λ (x : ℕ). x * (d.1 * up e * down step)) (sym unit)
      ∙ sym (unsigned_abs-mul d.0 (pos (d.1 * up e * down step)))
      ∙ ap nat_abs worth
      ∙ unsigned_abs-mul total (pos (up step * down e)) in
      eq_of_mul-eq-mul_right (down e) (down_pos e) (amount d * down step) (exactly total step)
      (mul_right_comm (amount d) (down step) (down e)
      ∙ ap (λ (x : ℕ). x * down step) (sym (amount_worth d.1 e low))
      ∙ mul_right_comm (d.1 * up e) (2 ^ 149) (down step)
      ∙ ap (λ (x : ℕ). x * 2 ^ 149) (same ∙ sym (mul_assoc (nat_abs total) (up step) (down e)))
      ∙ mul_right_comm (nat_abs total * up step) (down e) (2 ^ 149))

  pub amount_is_worth : d.0 ≡ cond (below_zero total) (negsuc 0) (pos 1) → amount d * down step ≡ exactly total step → Worth total step d
  amount_is_worth signed h =
      let same : d.1 * up e * down step ≡ nat_abs total * up step * down e =
      eq_of_mul-eq-mul_right (2 ^ 149) (pow_pos 149) (d.1 * up e * down step) (nat_abs total * up step * down e)
      (mul_right_comm (d.1 * up e) (down step) (2 ^ 149)
      ∙ ap (λ (x : ℕ). x * down step) (amount_worth d.1 e low)
      ∙ mul_right_comm (amount d) (down e) (down step)
      ∙ ap (λ (x : ℕ). x * down e) h
      ∙ mul_right_comm (nat_abs total * up step) (2 ^ 149) (down e)) in
      ap (λ (z : ℤ). z *ℤ pos (d.1 * up e * down step)) signed
      ∙ signed_product total (d.1 * up e * down step) (up step * down e) (same ∙ mul_assoc (nat_abs total) (up step) (down e))
