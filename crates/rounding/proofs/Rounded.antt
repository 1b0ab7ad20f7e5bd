-- A whole number times a power of two, rounded: what is dropped and kept follows from the place of the number's highest one bit.
use Rattle.std.proofs.Common.{◌≡◌, ℕ, suc, ◌+◌, ◌-◌, ◌*◌, ◌/◌, ◌%◌, ◌^◌, ◌<◌, ◌≤◌, min, true, false, ℤ, pos, negsuc, ◌+ℤ◌, ◌-ℤ◌, neg_ℤ, nat_abs, ◌≤ℤ◌, ◌<ℤ◌, sym, refl, ap, ◌∙◌, ap₂, le_trans, le_of_eq, lt_of_lt_of_le, zero-lt-suc, mul_assoc, mul_comm, mul-pos, one-mul, zero-mul, mul-one, div-one, mul_left_comm, arith, pow_pos, pow_mono, pow-add, shl_lt, shr_lt}
use Prim.Native.Nat.{compare}
use native.Mathlib.Nat.{mod-one}
use borrow.Author.Differences.{ints}
use borrow.Author.Differences as parts
use lib.Arith.{le-zero}
use lib.Ieee.{binary32, up, down, size, nearest, round, to_bits}
use lib.Ieee.Digits.{size-lt}
use lib.Ieee.Fits.{nearest-le, down_pos}
use lib.Ieee.Nearest.{closest, closest_same, closest_mono}
use lib.Ieee.Order.{drop, kept}
use lib.Ieee.Scale.{round_same}
use Rattle.std.proofs.lemmas.Int.{clamps}
use Rattle.std.proofs.lemmas.Nat.{shl_whole}
use Rattle.rounding.specs.Word.{last_place, unsigned_word, nearest_whole, nearest_word}
use Rattle.rounding.proofs.Digits.{size_moved}
use Rattle.rounding.proofs.Bits.{round_word}

-- ---- an integer is the difference of two naturals, and a power of two the quotient of theirs
pub up_is : (e : ℤ) → up e ≡ 2 ^ parts.up e
up_is (pos n) = refl
up_is (negsuc n) = refl

pub down_is : (e : ℤ) → down e ≡ 2 ^ parts.down e
down_is (pos n) = refl
down_is (negsuc n) = refl

-- ---- the nearest whole number
closest_one : (n : ℕ) → closest n 1 ≡ n
closest_one n = ap (λ (x : ℕ). nearest (n / 1) (compare (x * 2) 1)) (mod-one n) ∙ div-one n

-- a half and less
pub closest_none : (n b : ℕ) → 0 < b → n * 2 ≤ b → closest n b ≡ 0
closest_none n b some half = le-zero (closest_mono n b 1 2 some (zero-lt-suc 1) (le_trans half (le_of_eq (sym (one-mul b)))))

pub scaled_down : (n : ℕ) (power : ℤ) → power <ℤ pos 0 → nearest_whole n (2 ^ nat_abs power) ≡ nearest_whole (n * up power) (down power)
scaled_down n (pos p) h = absurd (omega (arith, ints))
scaled_down n (negsuc p) h = ap (λ (x : ℕ). nearest_whole x (2 ^ suc p)) (sym (mul-one n))

pub scaled_up : (n : ℕ) (power : ℤ) → pos 0 ≤ℤ power → (pos (size n) +ℤ power) ≤ℤ pos 24 → n * 2 ^ nat_abs power % 2 ^ 64 ≡ nearest_whole (n * up power) (down power)
scaled_up n (pos p) h room =
    shl_whole n (size n) p 64 (size-lt n) (omega (arith, ints)) ∙ sym (closest_one (n * 2 ^ p))
scaled_up n (negsuc p) h room = absurd (omega (arith, ints))

closest_high : (n t r : ℕ) → size n + t ≤ 24 + r → closest (n * 2 ^ t) (2 ^ r) ≤ 2 ^ 24
closest_high n t r room =
    let a = n * 2 ^ t in
    le_trans (nearest-le (a / 2 ^ r) (compare (a % 2 ^ r * 2) (2 ^ r))) (shr_lt 24 r (lt_of_lt_of_le (shl_lt (size n) t (size-lt n)) (pow_mono room)))

pub scaled_high : (n : ℕ) (power : ℤ) → (pos (size n) +ℤ power) ≤ℤ pos 24 → nearest_whole (n * up power) (down power) ≤ 2 ^ 24
scaled_high n power room = rw (up_is power, down_is power) (closest_high n (parts.up power) (parts.down power) (omega (arith, ints)))

-- ---- m * 2 ^ u / 2 ^ d, where the last digit kept stands for 2 ^ k of the smallest values. In units of that digit the value is m * 2 ^ t / 2 ^ r
record Placed (m u d k r t : ℕ) : Type 0 where
  some : 0 < m
  last : k ≡ size m + (u + 149) - d - 24
  scaled : r + (149 + u) ≡ k + d + t

module _ (m u d k r t : ℕ) (p : Placed m u d k r t) where
  dropped : drop 24 (m * 2 ^ u * 2 ^ 149) (2 ^ d) ≡ k
  dropped =
      ap (λ (x : ℕ). size (x / 2 ^ d) - 24) (mul_assoc m (2 ^ u) (2 ^ 149) ∙ ap (λ (x : ℕ). m * x) (sym (pow-add 2 u 149)))
      ∙ ap (λ (x : ℕ). x - 24) (size_moved m (u + 149) d p.some)
      ∙ sym p.last

  same_fraction : m * 2 ^ u * 2 ^ 149 * 2 ^ r ≡ m * 2 ^ t * (2 ^ d * 2 ^ k)
  same_fraction =
      let e : 2 ^ (r + (149 + u)) ≡ 2 ^ (k + d + t) = ap (λ (x : ℕ). 2 ^ x) p.scaled in
      simp (mul_assoc, mul_comm, mul_left_comm) (simp (mul_assoc, mul_comm, mul_left_comm, pow-add) at (ap (λ (x : ℕ). m * x) e))

  significand : kept 24 (m * 2 ^ u * 2 ^ 149) (2 ^ d) ≡ closest (m * 2 ^ t) (2 ^ r)
  significand =
      ap (λ (x : ℕ). closest (m * 2 ^ u * 2 ^ 149) (2 ^ d * 2 ^ x)) dropped
      ∙ closest_same (m * 2 ^ u * 2 ^ 149) (2 ^ d * 2 ^ k) (m * 2 ^ t) (2 ^ r) (mul-pos (pow_pos d) (pow_pos k)) (pow_pos r) same_fraction

  placed_word : to_bits binary32 (round binary32 false (m * 2 ^ u) (2 ^ d)) ≡ min (k * 2 ^ 23 + closest (m * 2 ^ t) (2 ^ r)) 0x7F80_0000
  placed_word = round_word false (m * 2 ^ u) (2 ^ d) ∙ ap₂ (λ (x y : ℕ). 0 + min (x * 2 ^ 23 + y) 0x7F80_0000) dropped significand ∙ omega arith

pub unsigned_word_is : (m : ℕ) (step last : ℤ) (k : ℕ) → 0 < m → last ≡ last_place m step → pos k ≡ last -ℤ neg_ℤ (pos 149)
    → unsigned_word m step ≡ min (k * 2 ^ 23 + nearest_whole (m * up (step -ℤ last)) (down (step -ℤ last))) 0x7F80_0000
unsigned_word_is m step last k some is at =
    let by = step -ℤ last in
    let placed : Placed m (parts.up step) (parts.down step) k (parts.down by) (parts.up by) = record { some = some; last = omega (arith, ints, clamps); scaled = omega (arith, ints, clamps) } in
    rw (up_is step, down_is step, up_is by, down_is by) (placed_word m (parts.up step) (parts.down step) k (parts.down by) (parts.up by) placed)

-- ---- zero, and the sign
zero_word : to_bits binary32 (round binary32 false 0 1) ≡ 0
unfolding to_bits round
zero_word = refl

pub unsigned_word_zero : (step : ℤ) → unsigned_word 0 step ≡ 0
unsigned_word_zero step =
    ap (to_bits binary32) (round_same binary32 false (0 * up step) (down step) 0 1 (down_pos step) (zero-lt-suc 0) (mul-one (0 * up step) ∙ zero-mul (up step) ∙ sym (zero-mul (down step))))
    ∙ zero_word

pub nearest_word_from_zero : (total step : ℤ) → pos 0 ≤ℤ total → nearest_word total step ≡ unsigned_word (nat_abs total) step
nearest_word_from_zero (pos n) step h = refl
nearest_word_from_zero (negsuc n) step h = absurd (omega (arith, ints))

pub nearest_word_below_zero : (total step : ℤ) → total <ℤ pos 0 → nearest_word total step ≡ 2 ^ 31 + unsigned_word (nat_abs total) step
nearest_word_below_zero (pos n) step h = absurd (omega (arith, ints))
nearest_word_below_zero (negsuc n) step h =
    let plain = round_word false (suc n * up step) (down step) in
    let turned = round_word true (suc n * up step) (down step) in
    omega arith
