-- The word of a rounded fraction is the nearest one: it stands no further from the fraction than any other finite word does, and where another is as near its significand is even. What needs no rounding is given back.
use Rattle.std.proofs.Common.{◌≡◌, ℕ, ◌+◌, ◌-◌, ◌*◌, ◌/◌, ◌%◌, ◌^◌, ◌<◌, ◌≤◌, min, Bool, true, false, cond, ◌⊎◌, ℤ, pos, negsuc, ◌+ℤ◌, nat_abs, sym, refl, ap, ◌∙◌, subst, inl, inr, le_trans, le_of_eq, lt_of_lt_of_le, lt_of_le_of_lt, mul-le-mul_right, zero-lt-suc, mul_assoc, mul_comm, div-lt_iff_lt-mul, mul-lt-mul_of_pos_right, mul-pos, le-div_iff_mul-le, mul-div_cancel, mul_left_comm, arith, lit≤, pow_pos, pow_mono, pow-add, shl_lt}
use native.Mathlib.Nat.{eq_of_mul-eq-mul_right}
use lib.Ieee.{up, down, size}
use lib.Ieee.Digits.{size-le}
use lib.Ieee.Fits.{down_pos}
use lib.Ieee.Nearest.{closest_mono}
use lib.Ieee.Order.{drop, kept}
use borrow.Author.Differences.{ints}
use Rattle.std.proofs.lemmas.Bool.{cases_lt}
use Rattle.formats.specs.Interchange.{field, sign}
use Rattle.rounding.specs.Word.{below_zero, nearest_word}
use Rattle.rounding.specs.Nearest.{amount, distance, exactly, too_large, Nearest, GivenBack}
use Rattle.rounding.proofs.Digits.{size_gt}
use Rattle.rounding.proofs.Bits.{sign_bit, kept_leading, kept_significand, round_word}
use Rattle.rounding.proofs.ByFields.{off_of, to_numbers}
use Rattle.rounding.proofs.Closest.{closest_least, closest_even}
use Rattle.rounding.proofs.Fields.{Finite, significand_of, amount_of, Reads, reads, sign_of, significand_lt, infinite_field, amount_lt, number_of, numbered_word, decodes}
use Rattle.rounding.proofs.Worth.{worth_amount, amount_is_worth}

-- ---- the fraction n / den in units of the smallest value. Its significand q is a multiple of u, which is 2 ^ k such units
module _ (n den : ℕ) (some : 0 < den) where
  abbrev k : ℕ
  k = drop 24 n den

  abbrev q : ℕ
  q = kept 24 n den

  abbrev u : ℕ
  u = den * 2 ^ k

  some_u : 0 < u
  some_u = mul-pos some (pow_pos k)

  -- ---- from where on it is an infinity
  large : too_large * den ≤ n → 0x7F80_0000 ≤ k * 2 ^ 23 + q
  large h =
      let high : 2 ^ 276 ≤ n / den = (le-div_iff_mul-le some).1 (le_trans (mul-le-mul_right den (lit≤ tt)) h) in
      let digits : 276 < size (n / den) = size_gt (n / den) 276 high in
      let lead : 2 ^ 23 ≤ q = (kept_significand n den).low (omega arith) in
      elim (cases_lt 253 k) [
        | inl more ↦ omega arith
        | inr most ↦
            let at : k ≡ 253 = omega arith in
            let unit : u ≡ den * 2 ^ 253 = ap (λ (x : ℕ). den * 2 ^ x) at in
            let full : 2 ^ 24 ≤ q = closest_mono (2 ^ 25 - 1) 2 n u (zero-lt-suc 1) some_u (omega arith) in
            omega arith
      ]

  small : n < too_large * den → k * 2 ^ 23 + q < 0x7F80_0000
  small h =
      let low : n / den < 2 ^ 277 = (div-lt_iff_lt-mul some).1 (lt_of_lt_of_le h (mul-le-mul_right den (lit≤ tt))) in
      let digits : size (n / den) ≤ 277 = size-le (n / den) 277 low in
      let high : q ≤ 2 ^ 24 = (kept_significand n den).high in
      elim (cases_lt k 253) [
        | inl less ↦ omega arith
        | inr least ↦
            let at : k ≡ 253 = omega arith in
            let unit : u ≡ den * 2 ^ 253 = ap (λ (x : ℕ). den * 2 ^ x) at in
            let near : distance (q * u) n ≤ distance ((2 ^ 24 - 1) * u) n = closest_least n u (2 ^ 24 - 1) some_u in
            let not_full : q ≡ 2 ^ 24 → ⊥ = λ e. let whole : q * u ≡ 2 ^ 24 * u = ap (λ (x : ℕ). x * u) e in omega arith in
            omega arith
      ]

  -- m over at least as large a power of two is a multiple of u
  multiple : (m x : ℕ) → k ≤ x → m * 2 ^ x * den ≡ m * 2 ^ (x - k) * u
  multiple m x above =
      let split : x ≡ x - k + k = omega arith in
      ap (λ (y : ℕ). m * 2 ^ y * den) split ∙ ap (λ (y : ℕ). m * y * den) (pow-add 2 (x - k) k) ∙ simp (mul_assoc, mul_comm, mul_left_comm)

  -- ---- a word w is a multiple of u, or stands below the least one that has 24 digits
  data Grid (w : ℕ) : Type 0 where
    on : (c : ℕ) → amount_of w * den ≡ c * u → Grid w
    under : amount_of w * den < 2 ^ 23 * u → 2 ^ 23 * u ≤ n → Grid w

  grid : (w : ℕ) → Grid w
  grid w =
      let x = field 8 23 w - 1 in
      let m = significand_of w in
      elim (cases_lt x k) [
        | inl l ↦
            let below : m * 2 ^ x < 2 ^ 23 * 2 ^ k =
            lt_of_lt_of_le (mul-lt-mul_of_pos_right (significand_lt w) (pow_pos x))
            (le_trans (le_of_eq (sym (pow-add 2 24 x))) (le_trans (pow_mono {i = 24 + x} {j = 23 + k} (omega arith)) (le_of_eq (pow-add 2 23 k)))) in
            under
            (lt_of_lt_of_le (mul-lt-mul_of_pos_right below some) (le_of_eq (mul_assoc (2 ^ 23) (2 ^ k) den ∙ ap (λ (y : ℕ). 2 ^ 23 * y) (mul_comm (2 ^ k) den))))
            ((le-div_iff_mul-le some_u).0 (kept_leading n den (omega arith)))
        | inr g ↦
            on (m * 2 ^ (x - k)) (multiple m x g)
      ]

  least : (w : ℕ) → distance (q * u) n ≤ distance (amount_of w * den) n
  least w = elim (grid w) [
    | on c e ↦ let near = closest_least n u c some_u in omega arith
    | under l g ↦ let near = closest_least n u (2 ^ 23) some_u in omega arith
  ]

  even : (w : ℕ) → distance (amount_of w * den) n ≡ distance (q * u) n → (amount_of w * den ≡ q * u) ⊎ (q % 2 ≡ 0)
  even w same = elim (grid w) [
    | on c e ↦ elim (closest_even n u c some_u (omega arith)) [ inl p ↦ inl (omega arith) | inr p ↦ inr p ]
    | under l g ↦ let near = closest_least n u (2 ^ 23) some_u in inl (omega arith)
  ]

  -- a number of 24 digits over 2 ^ x of the smallest values is kept whole
  whole : (m x : ℕ) → m < 2 ^ 24 → m * 2 ^ x * den ≡ n → q * u ≡ n
  whole m x digits is =
      let all : n / den ≡ m * 2 ^ x = ap (λ (y : ℕ). y / den) (sym is) ∙ mul-div_cancel (m * 2 ^ x) some in
      let short : size (n / den) ≤ 24 + x = size-le (n / den) (24 + x) (subst (λ (y : ℕ). y < 2 ^ (24 + x)) (sym all) (shl_lt 24 x digits)) in
      let same : m * 2 ^ (x - k) * u ≡ n = sym (multiple m x (omega arith)) ∙ is in
      let near = closest_least n u (m * 2 ^ (x - k)) some_u in
      omega arith

module _ (total step : ℤ) where
  abbrev n : ℕ
  n = exactly total step

  abbrev word : ℕ
  word = drop 24 n (down step) * 2 ^ 23 + kept 24 n (down step)

  abbrev result : ℕ
  result = sign_bit (below_zero total) + min word 0x7F80_0000

  reads_result : word < 0x7F80_0000 → Reads result (kept 24 n (down step)) (drop 24 n (down step))
  reads_result l =
      let plain : word ≡ min word 0x7F80_0000 = omega arith in
      subst (λ (x : ℕ). Reads (sign_bit (below_zero total) + x) (kept 24 n (down step)) (drop 24 n (down step))) plain
      (reads (below_zero total) (kept 24 n (down step)) (drop 24 n (down step)) (kept_significand n (down step)) l)

  finite_word : Finite result → word < 0x7F80_0000
  finite_word f = elim (cases_lt word 0x7F80_0000) [
    | inl l ↦ l
    | inr g ↦
        let top : min word 0x7F80_0000 ≡ 0x7F80_0000 = omega arith in
        absurd (infinite_field (below_zero total) (subst (λ (x : ℕ). Finite (sign_bit (below_zero total) + x)) top f))
  ]

  result_units : Finite result → amount_of result * down step ≡ kept 24 n (down step) * (down step * 2 ^ drop 24 n (down step))
  result_units f =
      ap (λ (x : ℕ). x * down step) (reads_result (finite_word f)).size
      ∙ mul_assoc (kept 24 n (down step)) (2 ^ drop 24 n (down step)) (down step)
      ∙ ap (λ (x : ℕ). kept 24 n (down step) * x) (mul_comm (2 ^ drop 24 n (down step)) (down step))

  result_least : Finite result → (w : ℕ) → off_of total step result ≤ off_of total step w
  result_least f w = subst (λ (x : ℕ). distance x n ≤ off_of total step w) (sym (result_units f)) (least n (down step) (down_pos step) w)

  result_even : Finite result → (w : ℕ) → off_of total step w ≡ off_of total step result → (amount_of w ≡ amount_of result) ⊎ (significand_of result % 2 ≡ 0)
  result_even f w same = elim (even n (down step) (down_pos step) w (same ∙ ap (λ (x : ℕ). distance x n) (result_units f))) [
    | inl p ↦ inl (eq_of_mul-eq-mul_right (down step) (down_pos step) (amount_of w) (amount_of result) (p ∙ sym (result_units f)))
    | inr p ↦ inr ((reads_result (finite_word f)).parity ∙ p)
  ]

  result_finite : n < too_large * down step → Finite result
  result_finite h = (reads_result (small n (down step) (down_pos step) h)).finite

  result_infinite : too_large * down step ≤ n → result % 2 ^ 31 ≡ 0x7F80_0000
  result_infinite h =
      let l : 0x7F80_0000 ≤ word = large n (down step) (down_pos step) h in
      let top : min word 0x7F80_0000 ≡ 0x7F80_0000 = omega arith in
      ap (λ (x : ℕ). (sign_bit (below_zero total) + x) % 2 ^ 31) top ∙ below (below_zero total)
    where
      below : (s : Bool) → (sign_bit s + 0x7F80_0000) % 2 ^ 31 ≡ 0x7F80_0000
      below true = refl
      below false = refl

  result_signed : sign 8 23 result ≡ cond (below_zero total) (negsuc 0) (pos 1)
  result_signed = sign_of (below_zero total) (min word 0x7F80_0000) (omega arith)

  result_given_back : GivenBack total step result
  result_given_back d shaped worth =
      let x = nat_abs (d.2 +ℤ pos 149) in
      let places : x ≤ 253 = omega (arith, ints, shaped.from_least, shaped.to_greatest) in
      let is : amount d * down step ≡ n = worth_amount total step d shaped.from_least shaped.sign worth in
      let f : Finite result = result_finite (lt_of_le_of_lt (le_of_eq (sym is)) (mul-lt-mul_of_pos_right (amount_lt d.1 x shaped.significand places) (down_pos step))) in
      let same : amount_of result * down step ≡ n = result_units f ∙ whole n (down step) (down_pos step) d.1 x shaped.significand is in
      let r = numbered_word result in (
        number_of result,
        decodes result f,
        amount_is_worth total step (number_of result) r.low (r.same_sign ∙ result_signed) (ap (λ (y : ℕ). y * down step) r.same_amount ∙ same),
      )

  is_result : result ≡ nearest_word total step
  is_result = sym (round_word (below_zero total) (nat_abs total * up step) (down step))

  pub word_nearest : Nearest total step (nearest_word total step)
  word_nearest =
      subst (λ (x : ℕ). Nearest total step x) is_result
      (to_numbers total step result
      record {
        signed = result_signed;
        infinite = result_infinite;
        finite = result_finite;
        least = λ f w _. result_least f w;
        even = λ f w _ same. result_even f w same;
      })

  pub word_given_back : GivenBack total step (nearest_word total step)
  word_given_back = subst (GivenBack total step) is_result result_given_back
