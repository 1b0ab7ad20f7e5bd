-- `Nearest` by the fields of the words in place of their numbers.
use Rattle.std.proofs.Common.{◌≡◌, ℕ, ◌*◌, ◌%◌, ◌^◌, ◌<◌, ◌≤◌, cond, ◌⊎◌, ℤ, pos, negsuc, sym, ap, ◌∙◌, inl, inr, le_trans, le_of_eq}
use lib.Ieee.{down}
use Rattle.formats.specs.Coding.{Decoded}
use Rattle.formats.specs.Interchange.{fraction, field, sign}
use Rattle.rounding.specs.Word.{below_zero}
use Rattle.rounding.specs.Nearest.{exactly, distance, off, too_large, Nearest}
use Rattle.rounding.proofs.Fields.{Finite, significand_of, amount_of, Numbered, number_of, numbered_word, decodes, decoded}

-- how far the finite word w is from total times 2 to the power step
abbrev pub off_of : ℤ → ℤ → ℕ → ℕ
off_of total step w = distance (amount_of w * down step) (exactly total step)

pub record ByFields (total step : ℤ) (r : ℕ) : Type 0 where
  pub signed : sign 8 23 r ≡ cond (below_zero total) (negsuc 0) (pos 1)
  pub infinite : too_large * down step ≤ exactly total step → r % 2 ^ 31 ≡ 0x7F80_0000
  pub finite : exactly total step < too_large * down step → Finite r
  pub least : Finite r → (w : ℕ) → Finite w → off_of total step r ≤ off_of total step w
  pub even : Finite r → (w : ℕ) → Finite w → off_of total step w ≡ off_of total step r → (amount_of w ≡ amount_of r) ⊎ (significand_of r % 2 ≡ 0)

module _ (total step : ℤ) (r : ℕ) where
  same_off : (w : ℕ) (d : Decoded) → Numbered (sign 8 23 w) (field 8 23 w) (fraction 23 w) d → off total step d ≡ off_of total step w
  same_off w d h = ap (λ (x : ℕ). distance (x * down step) (exactly total step)) h.same_amount

  pub to_numbers : ByFields total step r → Nearest total step r
  to_numbers h = record {
    signed = h.signed;
    infinite = h.infinite;
    finite = λ small. (number_of r, decodes r (h.finite small));
    least = λ d e w dr ew.
        let a = decoded r d dr in
        let b = decoded w e ew in
        le_trans (le_of_eq (same_off r d a.1)) (le_trans (h.least a.0 w b.0) (le_of_eq (sym (same_off w e b.1))));
    even = λ d e w dr ew same.
        let a = decoded r d dr in
        let b = decoded w e ew in
        elim (h.even a.0 w b.0 (sym (same_off w e b.1) ∙ same ∙ same_off r d a.1)) [
          | inl p ↦ inl (b.1.same_amount ∙ p ∙ sym a.1.same_amount)
          | inr p ↦ inr (ap (λ (x : ℕ). x % 2) a.1.significand ∙ p)
        ];
  }

  pub from_numbers : Nearest total step r → ByFields total step r
  from_numbers h =
      let number = number_of r in
      let here = same_off r number (numbered_word r) in
      record {
        signed = h.signed;
        infinite = h.infinite;
        finite = λ small. let d = h.finite small in (decoded r d.0 d.1).0;
        least = λ f w g.
            le_trans (le_of_eq (sym here))
            (le_trans (h.least number (number_of w) w (decodes r f) (decodes w g)) (le_of_eq (same_off w (number_of w) (numbered_word w))));
        even = λ f w g same.
            elim (h.even number (number_of w) w (decodes r f) (decodes w g) (same_off w (number_of w) (numbered_word w) ∙ same ∙ sym here)) [
              | inl p ↦ inl (sym (numbered_word w).same_amount ∙ p ∙ (numbered_word r).same_amount)
              | inr p ↦ inr (ap (λ (x : ℕ). x % 2) (sym (numbered_word r).significand) ∙ p)
            ];
      }
