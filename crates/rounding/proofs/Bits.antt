-- The word of a rounded fraction: the exponent's field and the significand are the digits that `round` drops and keeps, side by side.
use Rattle.std.proofs.Common.{◌≡◌, ℕ, zero, suc, ◌+◌, ◌-◌, ◌*◌, ◌/◌, ◌%◌, ◌^◌, ◌<◌, ◌≤◌, min, Bool, true, false, cond, not, T, ltb, ℤ, pos, sym, refl, ap, ◌∙◌, subst, inl, inr, le_trans, le_of_eq, mul-le-mul_right, eq-or-lt_of_le, le-div_iff_mul-le, mul-one, mul-div_cancel, arith, ltb→lt, nltb→le, pow_pos, pow-add, shl_lt}
use Prim.Native.Nat.{compare}
use native.Mathlib.Nat.{div-div-eq-div-mul}
use lib.Pow.{pow-lt}
use lib.Count.{count_trailing_zeros}
use lib.Ieee.{fin, inf, binary32, up, down, minus, size, odd, units, round, to_bits}
use lib.Ieee.Digits.{odd_val, size-le, size_reaches}
use lib.Ieee.Fits.{down_pos, kept-lt, nearest-le, round_is}
use lib.Ieee.Nearest.{nearest-ge}
use lib.Ieee.Order.{drop, kept}
use Rattle.std.proofs.lemmas.Bool.{cases_lt}
use Rattle.rounding.proofs.Digits.{size_gt, size_is}

-- at most 24 digits or the power of two above them, and 24 digits at least where the last one stands above the smallest value
pub record Significand (q k : ℕ) : Type 0 where
  pub high : q ≤ 2 ^ 24
  pub low : 0 < k → 2 ^ 23 ≤ q

-- with fewer digits the last one stands for the smallest value
pub lowest_place : (q k : ℕ) → Significand q k → q < 2 ^ 23 → k ≡ 0
lowest_place q k h few = grind (arith, h.low)

abbrev pub sign_bit : Bool → ℕ
sign_bit s = cond s (2 ^ 31) 0

-- ---- what `to_bits` writes for n of the smallest values
abbrev below_sign : ℕ → ℕ
below_sign n = (size n - 24) * 2 ^ 23 + n / 2 ^ (size n - 24)

to_bits_of : (s : Bool) (m : ℕ) (e : ℤ) (n : ℕ) → m * up e * 2 ^ 149 ≡ n * down e → to_bits binary32 (fin s m e) ≡ sign_bit s + below_sign n
unfolding to_bits
to_bits_of s m e n h =
    ap (λ (x : ℕ). sign_bit s + (size x - 24) * 2 ^ 23 + x / 2 ^ (size x - 24)) (ap (λ (x : ℕ). x / down e) h ∙ mul-div_cancel n (down_pos e))
    ∙ omega arith

to_bits_odd : (s : Bool) (q k : ℕ) → to_bits binary32 (odd 25 s q k 149) ≡ sign_bit s + below_sign (q * 2 ^ k)
unfolding odd
to_bits_odd s zero k = to_bits_of s 0 (pos 0) (0 * 2 ^ k) (odd_val 25 s zero k 149)
to_bits_odd s (suc q) k =
    let t = count_trailing_zeros 25 (suc q) in
    to_bits_of s (suc q / 2 ^ t) (minus (k + t) 149) (suc q * 2 ^ k) (odd_val 25 s (suc q) k 149)

to_bits_inf : (s : Bool) → to_bits binary32 (inf s) ≡ sign_bit s + 0x7F80_0000
unfolding to_bits
to_bits_inf s = refl

-- ---- the leading digit, and a carry out of the significand, go into the exponent's field
record Written (q k : ℕ) : Type 0 where
  word : below_sign (q * 2 ^ k) ≡ k * 2 ^ 23 + q
  finite : size (q * 2 ^ k) ≤ 277 → k * 2 ^ 23 + q < 0x7F80_0000
  infinite : 277 < size (q * 2 ^ k) → 0x7F80_0000 ≤ k * 2 ^ 23 + q

-- n has 24 + x digits, and r are the leading 24
of_size : (q k x r : ℕ) → r * 2 ^ x ≡ q * 2 ^ k → size (q * 2 ^ k) - 24 ≡ x → below_sign (q * 2 ^ k) ≡ x * 2 ^ 23 + r
of_size q k x r e z =
    ap (λ (y : ℕ). y * 2 ^ 23 + q * 2 ^ k / 2 ^ y) z
    ∙ ap (λ (y : ℕ). x * 2 ^ 23 + y) (ap (λ (y : ℕ). y / 2 ^ x) (sym e) ∙ mul-div_cancel r (pow_pos x))

subnormal : (q k : ℕ) → k ≡ 0 → q < 2 ^ 23 → Written q k
subnormal q k z h =
    let plain : q * 2 ^ k ≡ q = ap (λ (x : ℕ). q * 2 ^ x) z ∙ mul-one q in
    let short : size (q * 2 ^ k) ≤ 23 = size-le (q * 2 ^ k) 23 (subst (λ (x : ℕ). x < 2 ^ 23) (sym plain) h) in
    record {
      word = of_size q k k q refl (omega arith);
      finite = λ _. omega arith;
      infinite = λ g. omega arith;
    }

normal : (q k : ℕ) → 2 ^ 23 ≤ q → q < 2 ^ 24 → Written q k
normal q k low high =
    let z : size (q * 2 ^ k) ≡ 24 + k =
    size_is (q * 2 ^ k) (23 + k) (24 + k) (omega arith) (le_trans (le_of_eq (pow-add 2 23 k)) (mul-le-mul_right (2 ^ k) low)) (shl_lt 24 k high) in
    record {
      word = of_size q k k q refl (omega arith);
      finite = λ g. omega arith;
      infinite = λ g. omega arith;
    }

carried : (q k : ℕ) → q ≡ 2 ^ 24 → Written q k
carried q k e =
    let n_is : 2 ^ (24 + k) ≡ q * 2 ^ k = pow-add 2 24 k ∙ ap (λ (x : ℕ). x * 2 ^ k) (sym e) in
    let above : q * 2 ^ k < 2 ^ (25 + k) = subst (λ (x : ℕ). x < 2 ^ (25 + k)) n_is (pow-lt {i = 24 + k} {j = 25 + k} (omega arith)) in
    let z : size (q * 2 ^ k) ≡ 25 + k = size_is (q * 2 ^ k) (24 + k) (25 + k) (omega arith) (le_of_eq n_is) above in
    let w : below_sign (q * 2 ^ k) ≡ suc k * 2 ^ 23 + 2 ^ 23 = of_size q k (suc k) (2 ^ 23) (sym (pow-add 2 23 (suc k)) ∙ ap (λ (x : ℕ). 2 ^ x) (moved k) ∙ n_is) (omega arith) in
    record {
      word = omega arith;
      finite = λ g. omega arith;
      infinite = λ g. omega arith;
    }
  where
    moved : (k : ℕ) → 23 + suc k ≡ 24 + k
    moved k = omega arith

written : (q k : ℕ) → Significand q k → Written q k
written q k h = elim (eq-or-lt_of_le h.high) [
  | inl e ↦ carried q k e
  | inr l ↦ elim (cases_lt q (2 ^ 23)) [
    | inl m ↦ subnormal q k (lowest_place q k h m) m
    | inr g ↦ normal q k g l
  ]
]

to_bits_units : (s : Bool) (q k : ℕ) → Significand q k → to_bits binary32 (units binary32 s q k) ≡ sign_bit s + min (k * 2 ^ 23 + q) 0x7F80_0000
unfolding units
to_bits_units s q k h = go (ltb (q * 2 ^ k) (2 ^ 277)) (ltb→lt (q * 2 ^ k) (2 ^ 277)) (nltb→le (q * 2 ^ k) (2 ^ 277)) (written q k h)
  where
    go : (b : Bool) → (T b → q * 2 ^ k < 2 ^ 277) → (T (not b) → 2 ^ 277 ≤ q * 2 ^ k) → Written q k
        → to_bits binary32 (cond b (odd 25 s q k 149) (inf s)) ≡ sign_bit s + min (k * 2 ^ 23 + q) 0x7F80_0000
    go true under over w =
        let l : k * 2 ^ 23 + q < 0x7F80_0000 = w.finite (size-le (q * 2 ^ k) 277 (under tt)) in
        to_bits_odd s q k ∙ ap (λ (x : ℕ). sign_bit s + x) (w.word ∙ omega arith)
    go false under over w =
        let l : 0x7F80_0000 ≤ k * 2 ^ 23 + q = w.infinite (size_gt (q * 2 ^ k) 277 (over tt)) in
        to_bits_inf s ∙ ap (λ (x : ℕ). sign_bit s + x) (omega arith)

-- ---- `round` at a fraction, n / den in units of the smallest value: it drops `drop` digits of the whole part and keeps the significand `kept`

-- where digits are dropped, the whole part has 24 others at least
pub kept_leading : (n den : ℕ) → 0 < drop 24 n den → 2 ^ 23 ≤ n / (den * 2 ^ drop 24 n den)
kept_leading n den some =
    let k = drop 24 n den in
    subst (λ (x : ℕ). 2 ^ 23 ≤ x) (div-div-eq-div-mul n den (2 ^ k))
    ((le-div_iff_mul-le (pow_pos k)).1 (le_trans (le_of_eq (sym (pow-add 2 23 k))) (size_reaches (n / den) (23 + k) (omega arith))))

pub kept_significand : (n den : ℕ) → Significand (kept 24 n den) (drop 24 n den)
kept_significand n den =
    let u = den * 2 ^ drop 24 n den in
    let o = compare (n % u * 2) u in
    record {
      high = le_trans (nearest-le (n / u) o) (subst (λ (x : ℕ). x < 2 ^ 24) (div-div-eq-div-mul n den (2 ^ drop 24 n den)) (kept-lt 24 (n / den)));
      low = λ some. le_trans (kept_leading n den some) (nearest-ge (n / u) o);
    }

pub round_word : (s : Bool) (num den : ℕ)
    → to_bits binary32 (round binary32 s num den) ≡ sign_bit s + min (drop 24 (num * 2 ^ 149) den * 2 ^ 23 + kept 24 (num * 2 ^ 149) den) 0x7F80_0000
round_word s num den =
    let n = num * 2 ^ 149 in
    ap (to_bits binary32) (round_is binary32 s num den) ∙ to_bits_units s (kept 24 n den) (drop 24 n den) (kept_significand n den)
