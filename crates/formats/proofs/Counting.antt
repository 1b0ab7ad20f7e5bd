-- The words of every layout count through its values.
use Rattle.std.proofs.Common.{◌≡◌, ℕ, zero, suc, ◌+◌, ◌-◌, ◌*◌, ◌/◌, ◌%◌, ◌^◌, ◌<◌, ◌≤◌, Bool, true, false, cond, eqb, ℤ, pos, negsuc, ◌-ℤ◌, nat_abs, Some, None, sym, refl, ap, ◌∙◌, subst, ⊎_elim, add-zero, mul_assoc, suc-mul, mul_comm, add-mul, lt_of_mul-lt-mul_right, one-mul, div-add-mod', zero-add, zero-mul, arith, pow_pos, pow_mono, pow-add}
use native.Mathlib.Nat.{pow-succ'}
use lib.Arith.{digits_div, digits_mod}
use lib.Dec.{eqb-suc-zero}
use Rattle.std.proofs.lemmas.Nat.{mod_below, div_below, le-div, shr-shr}
use Rattle.std.proofs.lemmas.Int.{ints}
use Rattle.std.proofs.lemmas.Bool.{cases_lt, eq-eqb, ne_eqb}
use Rattle.formats.specs.Counting.{OneUp, Opposite, WordsCountUp}
use Rattle.formats.specs.Interchange.{fraction, field, exponent, number, interchange}

-- a word by its parts: a sign bit, a field and a fraction
by_parts : ℕ → ℕ → ℕ → ℕ → ℕ → ℕ
by_parts x n b f t = (b * 2 ^ x + f) * 2 ^ n + t

module _ (x n b f t : ℕ) (low : t < 2 ^ n) (mid : f < 2 ^ x) where
  above : by_parts x n b f t / 2 ^ n ≡ b * 2 ^ x + f
  unfolding by_parts
  above = digits_div (b * 2 ^ x + f) low

  field_is : field x n (by_parts x n b f t) ≡ f
  field_is = ap (λ k. k % 2 ^ x) above ∙ digits_mod b mid

  fraction_is : fraction n (by_parts x n b f t) ≡ t
  unfolding by_parts
  fraction_is = digits_mod (b * 2 ^ x + f) low

  bit_is : by_parts x n b f t / 2 ^ (n + x) ≡ b
  bit_is = sym (shr-shr (by_parts x n b f t) n x) ∙ ap (λ k. k / 2 ^ x) above ∙ digits_div b mid

  -- what the word decodes to
  reads : interchange x n (by_parts x n b f t) ≡ cond (eqb f (2 ^ x - 1)) None (Some (number x n (cond (eqb (b % 2) 0) (pos 1) (negsuc 0)) f t))
  reads = rw (field_is, fraction_is, bit_is) refl

-- a word without a sign, by its parts
module _ (x n w : ℕ) where
  upper : ℕ
  upper = w / 2 ^ n

  lower : ℕ
  lower = w % 2 ^ n

  lower_small : lower < 2 ^ n
  unfolding lower
  lower_small = mod_below w (2 ^ n) (pow_pos n)

  parts : by_parts x n 0 upper lower ≡ w
  unfolding by_parts upper lower
  parts = ap (λ k. (k + w / 2 ^ n) * 2 ^ n + w % 2 ^ n) (zero-mul (2 ^ x)) ∙ ap (λ k. k * 2 ^ n + w % 2 ^ n) (zero-add (w / 2 ^ n)) ∙ div-add-mod' w (2 ^ n)

  -- with the sign bit
  parts_above : by_parts x n 1 upper lower ≡ w + 2 ^ (n + x)
  unfolding by_parts upper lower
  parts_above = omega (arith, add-mul (1 * 2 ^ x) (w / 2 ^ n) (2 ^ n), div-add-mod' w (2 ^ n), pow-add 2 n x, mul_comm (2 ^ n) (2 ^ x), ap (λ k. k * 2 ^ n) (one-mul (2 ^ x)))

  upper_below : (k : ℕ) → w < k * 2 ^ n → upper < k
  unfolding upper
  upper_below k h = div_below w (2 ^ n) k (pow_pos n) h

-- ---- one up
-- exponents count the places from the least one
places : (x n f : ℕ) → nat_abs (exponent x n (suc f) -ℤ exponent x n 1) ≡ f
places x n f = omega (arith, ints)

one_more : (m k : ℕ) → (m + 1) * k ≡ m * k + k
one_more m k = omega (arith, add-mul m 1 k)

-- the fraction takes one more
within : (x n f t : ℕ) (s : ℤ) → OneUp (exponent x n 1) (Some (number x n s f t)) (Some (number x n s f (t + 1)))
within x n zero t s = (refl, one_more t _)
within x n (suc f) t s =
    let more : 2 ^ n + (t + 1) ≡ 2 ^ n + t + 1 = omega arith in
    rw eqb-suc-zero (refl, ap (λ m. m * 2 ^ nat_abs (exponent x n (suc f) -ℤ exponent x n 1)) more ∙ one_more (2 ^ n + t) _)

-- it is all ones, and the field takes one more
carried : (x n f t : ℕ) (s : ℤ) → t + 1 ≡ 2 ^ n → OneUp (exponent x n 1) (Some (number x n s f t)) (Some (number x n s (suc f) 0))
carried x n zero t s full =
    let whole : 2 ^ n + 0 ≡ t + 1 = omega arith in
    (refl, ap (λ m. m * 2 ^ nat_abs (exponent x n 1 -ℤ exponent x n 1)) whole ∙ one_more t _)
carried x n (suc f) t s full =
    let whole : (2 ^ n + 0) * 2 ≡ 2 ^ n + t + 1 = omega arith in
    rw (eqb-suc-zero, eqb-suc-zero, places x n f, places x n (suc f)) (refl, doubled (2 ^ n + 0) (2 ^ n + t) (2 ^ f) (2 ^ suc f) whole (pow-succ' 2 f))
  where
    doubled : (a b p q : ℕ) → a * 2 ≡ b + 1 → q ≡ 2 * p → a * q ≡ b * p + p
    doubled a b p q e twice =
        ap (λ k. a * k) twice ∙ sym (mul_assoc a 2 p) ∙ ap (λ k. k * p) e ∙ one_more b p

-- ---- all words
plain : (x n f : ℕ) → by_parts x n 0 f 0 ≡ f * 2 ^ n
unfolding by_parts
plain x n f = simp (zero-mul, zero-add, add-zero)

one_after : (x n f t : ℕ) → by_parts x n 0 f (t + 1) ≡ by_parts x n 0 f t + 1
unfolding by_parts
one_after x n f t = omega arith

next_field : (x n f t : ℕ) → t + 1 ≡ 2 ^ n → by_parts x n 0 (suc f) 0 ≡ by_parts x n 0 f t + 1
unfolding by_parts
next_field x n f t e = simp (zero-mul, zero-add, add-zero) (omega (arith, suc-mul f (2 ^ n)))

module _ (x n : ℕ) where
  -- a field that is not all ones
  finite : (f t : ℕ) → t < 2 ^ n → f < 2 ^ x - 1 → interchange x n (by_parts x n 0 f t) ≡ Some (number x n (pos 1) f t)
  finite f t low mid =
      reads x n 0 f t low (omega arith) ∙ ap (λ b. cond b None (Some (number x n (pos 1) f t))) (ne_eqb f (2 ^ x - 1) (λ e. omega arith))

  -- a word and its field and fraction
  module _ (w : ℕ) (few : w < (2 ^ x - 1) * 2 ^ n) where
    this : interchange x n w ≡ Some (number x n (pos 1) (upper x n w) (lower x n w))
    this = subst (λ v. interchange x n v ≡ Some (number x n (pos 1) (upper x n w) (lower x n w))) (parts x n w) (finite (upper x n w) (lower x n w) (lower_small x n w) (upper_below x n w (2 ^ x - 1) few))

  within_next : (w : ℕ) → w + 1 < (2 ^ x - 1) * 2 ^ n → lower x n w + 1 < 2 ^ n → OneUp (exponent x n 1) (interchange x n w) (interchange x n (w + 1))
  within_next w few room =
      let f = upper x n w in
      let t = lower x n w in
      let at : by_parts x n 0 f (t + 1) ≡ w + 1 = one_after x n f t ∙ ap (λ v. v + 1) (parts x n w) in
      let after = subst (λ v. interchange x n v ≡ Some (number x n (pos 1) f (t + 1))) at (finite f (t + 1) room (upper_below x n w (2 ^ x - 1) (omega arith))) in
      rw (this w (omega arith), after) (within x n f t (pos 1))

  carried_next : (w : ℕ) → w + 1 < (2 ^ x - 1) * 2 ^ n → 2 ^ n ≤ lower x n w + 1 → OneUp (exponent x n 1) (interchange x n w) (interchange x n (w + 1))
  carried_next w few full =
      let f = upper x n w in
      let t = lower x n w in
      let ones : t + 1 ≡ 2 ^ n = omega (arith, lower_small x n w) in
      let at : by_parts x n 0 (suc f) 0 ≡ w + 1 = next_field x n f t ones ∙ ap (λ v. v + 1) (parts x n w) in
      let size : suc f * 2 ^ n ≡ w + 1 = sym (plain x n (suc f)) ∙ at in
      let mid = lt_of_mul-lt-mul_right (2 ^ n) (subst (λ v. v < (2 ^ x - 1) * 2 ^ n) (sym size) few) in
      let after = subst (λ v. interchange x n v ≡ Some (number x n (pos 1) (suc f) 0)) at (finite (suc f) 0 (pow_pos n) mid) in
      rw (this w (omega arith), after) (carried x n f t (pos 1) ones)

  whole : 2 ^ x * 2 ^ n ≡ 2 ^ (n + x)
  whole = mul_comm (2 ^ x) (2 ^ n) ∙ sym (pow-add 2 n x)

  upper_any : (w : ℕ) → w < 2 ^ (n + x) → upper x n w < 2 ^ x
  upper_any w h = upper_below x n w (2 ^ x) (subst (λ k. w < k) (sym whole) h)

  last : (w : ℕ) → (2 ^ x - 1) * 2 ^ n ≤ w → w < 2 ^ (n + x) → interchange x n w ≡ None
  unfolding upper
  last w from below =
      let ones : upper x n w ≡ 2 ^ x - 1 = omega (arith, upper_any w below, le-div (2 ^ x - 1) w (2 ^ n) (pow_pos n) from) in
      ap (interchange x n) (sym (parts x n w)) ∙ reads x n 0 (upper x n w) (lower x n w) (lower_small x n w) (upper_any w below)
      ∙ ap (λ b. cond b None (Some (number x n (pos 1) (upper x n w) (lower x n w)))) (eq-eqb (upper x n w) (2 ^ x - 1) ones)

-- a number with either sign, or none
both_signs : (x n : ℕ) (ones : Bool) (f t : ℕ) → Opposite (cond ones None (Some (number x n (pos 1) f t))) (cond ones None (Some (number x n (negsuc 0) f t)))
both_signs x n true f t = tt
both_signs x n false zero t = (refl, refl, refl)
both_signs x n false (suc f) t = rw eqb-suc-zero (refl, refl, refl)

opposite : (x n w : ℕ) → w < 2 ^ (n + x) → Opposite (interchange x n w) (interchange x n (w + 2 ^ (n + x)))
opposite x n w below =
    let f = upper x n w in
    let t = lower x n w in
    let plus = ap (interchange x n) (sym (parts x n w)) ∙ reads x n 0 f t (lower_small x n w) (upper_any x n w below) in
    let minus = ap (interchange x n) (sym (parts_above x n w)) ∙ reads x n 1 f t (lower_small x n w) (upper_any x n w below) in
    rw (plus, minus) (both_signs x n (eqb f (2 ^ x - 1)) f t)

pub counts_up : WordsCountUp
counts_up x n some = record {
  from = subst (λ v. interchange x n v ≡ Some (number x n (pos 1) 0 0)) (plain x n 0 ∙ zero-mul (2 ^ n)) (finite x n 0 0 (pow_pos n) (omega (arith, pow_mono some)));
  next = λ w few. ⊎_elim (within_next x n w few) (carried_next x n w few) (cases_lt (lower x n w + 1) (2 ^ n));
  end = last x n;
  mirrored = opposite x n;
}
