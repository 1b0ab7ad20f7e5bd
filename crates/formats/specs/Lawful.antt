-- The formats keep the laws of a format: every layout of 4 to 8 exponent bits and 1 to 23 fraction bits, and fixed8 at every
-- power. Nothing here has to be believed: these are proofs, which the formats name.
use Rattle.std.specs.Prelude.{◌≡◌, ℕ, ◌+◌, ◌-◌, ◌*◌, ◌/◌, ◌^◌, ◌<◌, ◌≤◌, Bool, true, false, cond, ℤ, pos, negsuc, neg_ℤ, ◌≤ℤ◌, IfSome, Some, None, Option, ◌==◌, nat_lt, unsigned_abs, refl}
use Rattle.std.proofs.Common.{arith, pow_mono, pow_pos, pow-add}
use Rattle.std.proofs.lemmas.Nat.{mod_below}
use Rattle.std.proofs.lemmas.Int.{ints}
use Rattle.std.proofs.lemmas.Bool.{cond_both, eqb-false, ltb-true, ltb-false}
use Rattle.formats.specs.Coding.{Decoded, Coding, Shaped, Lawful}
use Rattle.formats.specs.Fixed.{fixed}
use Rattle.formats.specs.Interchange.{fraction, field, sign, number, coding, written}

unit_sign : (b : Bool) → unsigned_abs (cond b (pos 1) (negsuc 0)) ≡ 1
unit_sign true = refl
unit_sign false = refl

-- one more place doubles a power
double : (n : ℕ) → 2 ^ (n + 1) ≡ 2 ^ n * 2
double n = pow-add 2 n 1

-- a field that is not all ones
number_shaped : (x n : ℕ) (s : ℤ) (f t : ℕ) → unsigned_abs s ≡ 1 → t < 2 ^ n → 1 ≤ 2 ^ x - 2 → f ≤ 2 ^ x - 2 → Shaped (coding x n) (number x n s f t)
number_shaped x n s f t unit small some most =
    cond_both (f == 0) _ _ (Shaped (coding x n))
    (λ _. record { sign = unit; significand = omega (arith, double n); from_least = omega (arith, ints); to_greatest = omega (arith, ints) })
    (λ e. let some_field = eqb-false f 0 e in
    record { sign = unit; significand = omega (arith, double n); from_least = omega (arith, ints); to_greatest = omega (arith, ints) })

pub layout_lawful : (x n : ℕ) → 4 ≤ x → x ≤ 8 → 1 ≤ n → n ≤ 23 → Lawful (coding x n)
layout_lawful x n wide narrow some few =
    let below : x - 1 ≤ 7 = omega arith in
    let bias = pow_mono below in
    let most = pow_mono narrow in
    let least = pow_mono wide in
    record {
      some_bit = omega arith;
      few_bits = omega arith;
      low = omega (arith, ints);
      ordered = omega (arith, ints);
      high = omega (arith, ints);
      shaped = λ w.
          cond_both (field x n w == 2 ^ x - 1) None _ (λ d. IfSome d (Shaped (coding x n)))
          (λ _. tt)
          (λ e. let other = eqb-false (field x n w) (2 ^ x - 1) e in
          number_shaped x n (sign x n w) (field x n w) (fraction n w) (unit_sign _) (mod_below w (2 ^ n) (pow_pos n)) (omega arith) (omega (arith, mod_below (w / 2 ^ n) (2 ^ x) (pow_pos x))));
    }

pub written_lawful : {W : Type 0} (number_of : W → ℕ) (f : Coding ℕ) → Lawful f → Lawful (written number_of f)
written_lawful number_of f law = record {
  some_bit = law.some_bit;
  few_bits = law.few_bits;
  low = law.low;
  ordered = law.ordered;
  high = law.high;
  shaped = λ w. alike (f.decode (number_of w)) (law.shaped (number_of w));
}
  where
    alike : (o : Option Decoded) → IfSome o (Shaped f) → IfSome o (Shaped (written number_of f))
    alike None none = tt
    alike (Some d) shape = record { sign = shape.sign; significand = shape.significand; from_least = shape.from_least; to_greatest = shape.to_greatest }

pub fixed_lawful : (q : ℤ) → neg_ℤ (pos 64) ≤ℤ q → q ≤ℤ pos 64 → Lawful (fixed q)
fixed_lawful q from to = record {
  some_bit = omega arith;
  few_bits = omega arith;
  low = omega (arith, ints);
  ordered = omega (arith, ints);
  high = omega (arith, ints);
  shaped = λ b.
      cond_both (nat_lt b 128) _ _ (Shaped (fixed q))
      (λ e. let small = ltb-true b 128 e in
      record { sign = refl; significand = omega arith; from_least = omega (arith, ints); to_greatest = omega (arith, ints) })
      (λ e. let large = ltb-false b 128 e in
      record { sign = refl; significand = omega arith; from_least = omega (arith, ints); to_greatest = omega (arith, ints) });
}
