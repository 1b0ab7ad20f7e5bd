-- Of the words of 32 bits one alone is the nearest: the words of one sign are in the order of their magnitudes, so two that are as near stand next to one another, and one of them is odd.
use Rattle.std.proofs.Common.{◌≡◌, ℕ, zero, suc, ◌+◌, ◌-◌, ◌*◌, ◌/◌, ◌%◌, ◌^◌, ◌<◌, ◌≤◌, Bool, true, false, cond, eqb, ℤ, pos, negsuc, sym, ap, ◌∙◌, subst, ap₂, inl, inr, le_trans, le_of_eq, lt_of_lt_of_le, le-add_right, mul-le-mul_right, mod-lt, le_antisymm, mul-lt-mul_of_pos_right, arith, pow_pos, pow_mono, pow-add, shl_lt}
use lib.Ieee.{down}
use lib.Ieee.Fits.{down_pos}
use Rattle.std.proofs.lemmas.Bool.{cases_lt, cases_order}
use Rattle.std.proofs.lemmas.Bool.Decides.{nat_tests}
use Rattle.formats.specs.Interchange.{fraction, field}
use Rattle.rounding.specs.Nearest.{exactly, too_large, Nearest, Only}
use Rattle.rounding.proofs.ByFields.{off_of, ByFields, from_numbers}
use Rattle.rounding.proofs.Fields.{Finite, significand_of, amount_at, amount_of, amount_high}

-- ---- magnitudes by their two fields
amount_under : (f t : ℕ) → t < 2 ^ 23 → amount_at f t < 2 ^ (23 + f)
amount_under zero t h = omega arith
amount_under (suc f) t h =
    let place : 24 + f ≡ 23 + suc f = omega arith in
    subst (λ (x : ℕ). amount_at (suc f) t < 2 ^ x) place (subst (λ (x : ℕ). x < 2 ^ (24 + f)) (sym (amount_high f t)) (shl_lt 24 f (omega arith)))

amount_over : (f t : ℕ) → 2 ^ (23 + f) ≤ amount_at (suc f) t
amount_over f t = le_trans (le_of_eq (pow-add 2 23 f)) (le_trans (mul-le-mul_right (2 ^ f) (le-add_right (2 ^ 23) t)) (le_of_eq (sym (amount_high f t))))

-- a larger field, or the same and a larger fraction
by_field : (f g t r : ℕ) → t < 2 ^ 23 → f < g → amount_at f t < amount_at g r
by_field f zero t r h l = absurd (omega arith)
by_field f (suc g) t r h l = lt_of_lt_of_le (amount_under f t h) (le_trans (pow_mono {i = 23 + f} {j = 23 + g} (omega arith)) (amount_over g r))

by_fraction : (f t r : ℕ) → t < r → amount_at f t < amount_at f r
by_fraction f t r l = mul-lt-mul_of_pos_right (go (eqb f 0)) (pow_pos (f - 1))
  where
    go : (b : Bool) → cond b t (2 ^ 23 + t) < cond b r (2 ^ 23 + r)
    go true = l
    go false = omega arith

-- ---- the words below the sign are in the order of their magnitudes
in_order : (v w : ℕ) → w < 2 ^ 31 → v < w → amount_of v < amount_of w
in_order v w h l = elim (cases_lt (field 8 23 v) (field 8 23 w)) [
  | inl f ↦ by_field (field 8 23 v) (field 8 23 w) (fraction 23 v) (fraction 23 w) (mod-lt v (pow_pos 23)) f
  | inr g ↦
      let same : field 8 23 v ≡ field 8 23 w = omega arith in
      let less : fraction 23 v < fraction 23 w = omega arith in
      subst (λ (f : ℕ). amount_at f (fraction 23 v) < amount_of w) (sym same) (by_fraction (field 8 23 w) (fraction 23 v) (fraction 23 w) less)
]

unsigned : (w : ℕ) → amount_of w ≡ amount_of (w % 2 ^ 31)
unsigned w =
    let f : field 8 23 w ≡ field 8 23 (w % 2 ^ 31) = omega arith in
    let t : fraction 23 w ≡ fraction 23 (w % 2 ^ 31) = omega arith in
    ap₂ amount_at f t

parity : (w : ℕ) → significand_of w % 2 ≡ w % 2
parity w = go (eqb (field 8 23 w) 0)
  where
    go : (b : Bool) → cond b (w % 2 ^ 23) (2 ^ 23 + w % 2 ^ 23) % 2 ≡ w % 2
    go true = omega arith
    go false = omega arith

module _ (total step : ℤ) where
  -- a magnitude a step further up, as a whole number
  further : (a w : ℕ) → w < 2 ^ 31 → a % 2 ^ 31 < w → amount_of a * down step < amount_of w * down step
  further a w h l = mul-lt-mul_of_pos_right (rw (unsigned a) (in_order (a % 2 ^ 31) w h l)) (down_pos step)

  -- two finite words that are both the nearest do not differ in magnitude
  no_gap : (a b : ℕ) → ByFields total step a → ByFields total step b → Finite a → Finite b → a % 2 ^ 31 < b % 2 ^ 31 → ⊥
  no_gap a b na nb fa fb l =
      let next = suc (a % 2 ^ 31) in
      let order : amount_of a * down step < amount_of b * down step = rw (unsigned b) (further a (b % 2 ^ 31) (mod-lt b (pow_pos 31)) l) in
      let same : off_of total step b ≡ off_of total step a = le_antisymm (nb.least fb a fa) (na.least fa b fb) in
      elim (cases_lt next (b % 2 ^ 31)) [
        | inl between ↦
            let low : amount_of a * down step < amount_of next * down step = further a next (omega arith) (omega arith) in
            let high : amount_of next * down step < amount_of b * down step =
            rw (unsigned b) (mul-lt-mul_of_pos_right (in_order next (b % 2 ^ 31) (mod-lt b (pow_pos 31)) between) (down_pos step)) in
            let near : off_of total step a ≤ off_of total step next = na.least fa next (omega arith) in
            omega arith
        | inr beside ↦ elim (na.even fa b fb same) [
          | inl e ↦ let equal : amount_of b * down step ≡ amount_of a * down step = ap (λ (x : ℕ). x * down step) e in omega arith
          | inr ea ↦ elim (nb.even fb a fa (sym same)) [
            | inl e ↦ let equal : amount_of a * down step ≡ amount_of b * down step = ap (λ (x : ℕ). x * down step) e in omega arith
            | inr eb ↦ omega (arith, parity a, parity b)
          ]
        ]
      ]

  same_magnitude : (a b : ℕ) → ByFields total step a → ByFields total step b → a % 2 ^ 31 ≡ b % 2 ^ 31
  same_magnitude a b na nb = elim (cases_lt (exactly total step) (too_large * down step)) [
    | inl h ↦ elim (cases_order (a % 2 ^ 31) (b % 2 ^ 31)) [
      | inl e ↦ e
      | inr apart ↦ elim apart [
        | inl l ↦ absurd (no_gap a b na nb (na.finite h) (nb.finite h) l)
        | inr g ↦ absurd (no_gap b a nb na (nb.finite h) (na.finite h) g)
      ]
    ]
    | inr h ↦ na.infinite h ∙ sym (nb.infinite h)
  ]

  same_bit : (x y : ℕ) → x < 2 → y < 2 → cond (eqb x 0) (pos 1) (negsuc 0) ≡ cond (eqb y 0) (pos 1) (negsuc 0) → x ≡ y
  same_bit x y h l e = grind (arith, nat_tests)

  one_word : (a b : ℕ) → a < 2 ^ 32 → b < 2 ^ 32 → ByFields total step a → ByFields total step b → a ≡ b
  one_word a b A B na nb =
      let low : a % 2 ^ 31 ≡ b % 2 ^ 31 = same_magnitude a b na nb in
      let high : a / 2 ^ 31 % 2 ≡ b / 2 ^ 31 % 2 = same_bit (a / 2 ^ 31 % 2) (b / 2 ^ 31 % 2) (omega arith) (omega arith) (na.signed ∙ sym nb.signed) in
      omega arith

  -- where r is the nearest word, no other is
  pub only : (r : ℕ) → r < 2 ^ 32 → Nearest total step r → Only total step r
  only r R nr w W nw = one_word w r W R (from_numbers total step w nw) (from_numbers total step r nr)
