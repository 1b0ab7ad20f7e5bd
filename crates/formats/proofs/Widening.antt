-- A word with zero bits behind it is the same number in the layout with as many fraction bits more.
use Rattle.std.proofs.Common.{◌≡◌, ℕ, ◌+◌, ◌-◌, ◌*◌, ◌/◌, ◌%◌, ◌^◌, ◌<◌, Bool, true, false, cond, eqb, ℤ, pos, negsuc, Some, None, sym, refl, ap, ◌∙◌, mul_assoc, add-mul, div-add-mod', arith, pow_pos, pow-add}
use lib.Arith.{digits_div, digits_mod}
use Rattle.std.proofs.lemmas.Int.{ints}
use Rattle.std.proofs.lemmas.Nat.{mod_below, shr-shr}
use Rattle.formats.specs.Agreement.{Widened}
use Rattle.formats.specs.Interchange.{fraction, field, sign, exponent, number, interchange}

module _ (n k w : ℕ) where
  split : w * 2 ^ k ≡ w / 2 ^ n * 2 ^ (n + k) + w % 2 ^ n * 2 ^ k
  split =
      ap (λ v. v * 2 ^ k) (sym (div-add-mod' w (2 ^ n)))
      ∙ add-mul (w / 2 ^ n * 2 ^ n) (w % 2 ^ n) (2 ^ k)
      ∙ ap (λ v. v + w % 2 ^ n * 2 ^ k) (mul_assoc (w / 2 ^ n) (2 ^ n) (2 ^ k) ∙ ap (λ v. w / 2 ^ n * v) (sym (pow-add 2 n k)))

  low : w % 2 ^ n * 2 ^ k < 2 ^ (n + k)
  low = grind (arith, pow-add 2 n k, pow_pos k, mod_below w (2 ^ n) (pow_pos n))

  above : w * 2 ^ k / 2 ^ (n + k) ≡ w / 2 ^ n
  above = ap (λ v. v / 2 ^ (n + k)) split ∙ digits_div (w / 2 ^ n) low

  wider_fraction : fraction (n + k) (w * 2 ^ k) ≡ fraction n w * 2 ^ k
  wider_fraction = ap (λ v. v % 2 ^ (n + k)) split ∙ digits_mod (w / 2 ^ n) low

module _ (x n k w : ℕ) where
  same_field : field x (n + k) (w * 2 ^ k) ≡ field x n w
  same_field = ap (λ v. v % 2 ^ x) (above n k w)

  same_bit : w * 2 ^ k / 2 ^ (n + k + x) ≡ w / 2 ^ (n + x)
  same_bit = sym (shr-shr (w * 2 ^ k) (n + k) x) ∙ ap (λ v. v / 2 ^ x) (above n k w) ∙ shr-shr w n x

  same_sign : sign x (n + k) (w * 2 ^ k) ≡ sign x n w
  same_sign = ap (λ b. cond (eqb (b % 2) 0) (pos 1) (negsuc 0)) same_bit

-- by whether the field is all ones, and whether it is 0
fields : (x n k : ℕ) (ones : Bool) (s : ℤ) (f t : ℕ) → Widened k (cond ones None (Some (number x n s f t))) (cond ones None (Some (number x (n + k) s f (t * 2 ^ k))))
fields x n k true s f t = tt
fields x n k false s f t = by_field (eqb f 0)
  where
    by_field : (none : Bool)
        → Widened k (Some (cond none (s, t, exponent x n 1) (s, 2 ^ n + t, exponent x n f)))
        (Some (cond none (s, t * 2 ^ k, exponent x (n + k) 1) (s, 2 ^ (n + k) + t * 2 ^ k, exponent x (n + k) f)))
    by_field true = (refl, refl, omega (arith, ints))
    by_field false = (refl, omega (arith, pow-add 2 n k, add-mul (2 ^ n) t (2 ^ k)), omega (arith, ints))

pub widened : (x n k w : ℕ) → Widened k (interchange x n w) (interchange x (n + k) (w * 2 ^ k))
widened x n k w = rw (same_field x n k w, wider_fraction n k w, same_sign x n k w) (fields x n k (eqb (field x n w) (2 ^ x - 1)) (sign x n w) (field x n w) (fraction n w))
