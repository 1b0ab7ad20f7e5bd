-- The fields of a word, and the number that they decode to.
use Rattle.std.proofs.Common.{◌≡◌, ℕ, zero, suc, ◌+◌, ◌-◌, ◌*◌, ◌/◌, ◌%◌, ◌^◌, ◌<◌, ◌≤◌, Bool, true, false, cond, eqb, ℤ, pos, negsuc, ◌+ℤ◌, neg_ℤ, nat_abs, ◌≤ℤ◌, Some, None, sym, refl, ap, ◌∙◌, subst, ap₂, inl, inr, lt_of_le_of_lt, lt_irrefl, mod-lt, mul_assoc, add-sub_of_le, mul-le-mul, eq-or-lt_of_le, arith, lit<, pow_pos, pow_mono, pow-add}
use borrow.Author.Differences.{ints}
use borrow.Author.Differences as parts
use lib.Dec.{eqb-suc-zero}
use lib.Ieee.{up, down}
use Rattle.std.proofs.lemmas.Bool.{cases_lt, cond-false, eqb-false, ne_eqb}
use Rattle.formats.specs.Coding.{Decoded}
use Rattle.formats.specs.Interchange.{fraction, field, sign, exponent, number}
use Rattle.rounding.specs.Nearest.{Decodes, amount, too_large}
use Rattle.rounding.proofs.Bits.{Significand, lowest_place, sign_bit}
use Rattle.rounding.proofs.Rounded.{up_is, down_is}

abbrev pub Finite : ℕ → Type 0
Finite w = field 8 23 w < 255

-- ---- the significand and the amount by the two fields
abbrev pub significand_at : ℕ → ℕ → ℕ
significand_at f t = cond (eqb f 0) t (2 ^ 23 + t)

abbrev pub significand_of : ℕ → ℕ
significand_of w = significand_at (field 8 23 w) (fraction 23 w)

abbrev pub amount_at : ℕ → ℕ → ℕ
amount_at f t = significand_at f t * 2 ^ (f - 1)

abbrev pub amount_of : ℕ → ℕ
amount_of w = amount_at (field 8 23 w) (fraction 23 w)

significand_high : (f t : ℕ) → significand_at (suc f) t ≡ 2 ^ 23 + t
significand_high f t = ap (λ (b : Bool). cond b t (2 ^ 23 + t)) (eqb-suc-zero f)

pub amount_high : (f t : ℕ) → amount_at (suc f) t ≡ (2 ^ 23 + t) * 2 ^ f
amount_high f t = ap₂ (λ (x y : ℕ). x * 2 ^ y) (significand_high f t) (omega arith)

-- ---- what the fields decode to
pub record Numbered (s : ℤ) (f t : ℕ) (d : Decoded) : Type 0 where
  pub same_sign : d.0 ≡ s
  pub significand : d.1 ≡ significand_at f t
  pub low : neg_ℤ (pos 149) ≤ℤ d.2
  pub same_amount : amount d ≡ amount_at f t

number_high : (s : ℤ) (f t : ℕ) → number 8 23 s (suc f) t ≡ (s, 2 ^ 23 + t, exponent 8 23 (suc f))
number_high s f t = ap (λ (b : Bool). cond b (s, t, exponent 8 23 1) (s, 2 ^ 23 + t, exponent 8 23 (suc f))) (eqb-suc-zero f)

-- how far an exponent lies above the least one
place : (f : ℕ) → nat_abs (exponent 8 23 (suc f) +ℤ pos 149) ≡ f
place f = omega (arith, ints)

numbered : (s : ℤ) (f t : ℕ) → Numbered s f t (number 8 23 s f t)
numbered s zero t = record { same_sign = refl; significand = refl; low = omega (arith, ints); same_amount = refl }
numbered s (suc f) t =
    subst (Numbered s (suc f) t) (sym (number_high s f t))
    record {
      same_sign = refl;
      significand = sym (significand_high f t);
      low = omega (arith, ints);
      same_amount = ap (λ (x : ℕ). (2 ^ 23 + t) * 2 ^ x) (place f) ∙ sym (amount_high f t);
    }

abbrev pub number_of : ℕ → Decoded
number_of w = number 8 23 (sign 8 23 w) (field 8 23 w) (fraction 23 w)

pub numbered_word : (w : ℕ) → Numbered (sign 8 23 w) (field 8 23 w) (fraction 23 w) (number_of w)
numbered_word w = numbered (sign 8 23 w) (field 8 23 w) (fraction 23 w)

pub decodes : (w : ℕ) → Finite w → Decodes w (number_of w)
decodes w h = cond-false (eqb (field 8 23 w) 255) None (Some (number_of w)) (ne_eqb (field 8 23 w) 255 (λ e. omega arith))

pub decoded : (w : ℕ) (d : Decoded) → Decodes w d → Finite w × Numbered (sign 8 23 w) (field 8 23 w) (fraction 23 w) d
decoded w d = go (eqb (field 8 23 w) 255) (eqb-false (field 8 23 w) 255)
  where
    go : (b : Bool) → (b ≡ false → field 8 23 w ≡ 255 → ⊥) → cond b None (Some (number_of w)) ≡ Some d → Finite w × Numbered (sign 8 23 w) (field 8 23 w) (fraction 23 w) d
    go true other e = let z : ◌≡◌ {A = ℕ} 0 1 = cc in absurd (omega arith)
    go false other e =
        let same : number_of w ≡ d = cc in
        (omega (arith, other refl, mod-lt (w / 2 ^ 23) (pow_pos 8)), subst (Numbered (sign 8 23 w) (field 8 23 w) (fraction 23 w)) same (numbered_word w))

-- ---- a word that is put together
record Fields (w f t : ℕ) : Type 0 where
  its_field : field 8 23 w ≡ f
  its_fraction : fraction 23 w ≡ t

fields : (s : Bool) (w f t : ℕ) → w ≡ f * 2 ^ 23 + t → f < 256 → t < 2 ^ 23 → Fields (sign_bit s + w) f t
fields true w f t e F H = record { its_field = omega arith; its_fraction = omega arith }
fields false w f t e F H = record { its_field = omega arith; its_fraction = omega arith }

pub sign_of : (s : Bool) (w : ℕ) → w < 2 ^ 31 → sign 8 23 (sign_bit s + w) ≡ cond s (negsuc 0) (pos 1)
sign_of true w h = ap (λ (x : ℕ). cond (eqb x 0) (pos 1) (negsuc 0)) (high w h)
  where
    high : (w : ℕ) → w < 2 ^ 31 → (2 ^ 31 + w) / 2 ^ 31 % 2 ≡ 1
    high w h = omega arith
sign_of false w h = ap (λ (x : ℕ). cond (eqb x 0) (pos 1) (negsuc 0)) (none w h)
  where
    none : (w : ℕ) → w < 2 ^ 31 → (0 + w) / 2 ^ 31 % 2 ≡ 0
    none w h = omega arith

-- what the significand q over 2 ^ k of the smallest values is read as
pub record Reads (w q k : ℕ) : Type 0 where
  pub finite : Finite w
  pub size : amount_of w ≡ q * 2 ^ k
  pub parity : significand_of w % 2 ≡ q % 2

reads_low : (w t : ℕ) → Fields w 0 t → Reads w t 0
reads_low w t h = record {
  finite = let f = h.its_field in omega arith;
  size = ap₂ amount_at h.its_field h.its_fraction;
  parity = ap₂ (λ (x y : ℕ). significand_at x y % 2) h.its_field h.its_fraction;
}

reads_high : (w k t : ℕ) → suc k < 255 → Fields w (suc k) t → Reads w (2 ^ 23 + t) k
reads_high w k t under h = record {
  finite = let f = h.its_field in omega arith;
  size = ap₂ amount_at h.its_field h.its_fraction ∙ amount_high k t;
  parity = ap₂ (λ (x y : ℕ). significand_at x y % 2) h.its_field h.its_fraction ∙ ap (λ (x : ℕ). x % 2) (significand_high k t);
}

pub reads : (s : Bool) (q k : ℕ) → Significand q k → k * 2 ^ 23 + q < 0x7F80_0000 → Reads (sign_bit s + (k * 2 ^ 23 + q)) q k
reads s q k h under =
    let w = k * 2 ^ 23 + q in
    elim (eq-or-lt_of_le h.high) [
      | inl e ↦
          let next = reads_high (sign_bit s + w) (suc k) 0 (omega arith) (fields s w (suc (suc k)) 0 (omega arith) (omega arith) (omega arith)) in
          let moved : 23 + suc k ≡ 24 + k = omega arith in
          record {
            finite = next.finite;
            size = next.size ∙ sym (pow-add 2 23 (suc k)) ∙ ap (λ (x : ℕ). 2 ^ x) moved ∙ pow-add 2 24 k ∙ ap (λ (x : ℕ). x * 2 ^ k) (sym e);
            parity = next.parity ∙ ap (λ (x : ℕ). x % 2) (sym e);
          }
      | inr l ↦ elim (cases_lt q (2 ^ 23)) [
        | inl low ↦
            let z : k ≡ 0 = lowest_place q k h low in
            subst (λ (x : ℕ). Reads (sign_bit s + w) q x) (sym z) (reads_low (sign_bit s + w) q (fields s w 0 q (omega arith) (omega arith) low))
        | inr lead ↦
            subst (λ (x : ℕ). Reads (sign_bit s + w) x k) (add-sub_of_le lead)
            (reads_high (sign_bit s + w) k (q - 2 ^ 23) (omega arith) (fields s w (suc k) (q - 2 ^ 23) (omega arith) (omega arith) (omega arith)))
      ]
    ]

-- ---- any word
pub significand_lt : (w : ℕ) → significand_of w < 2 ^ 24
significand_lt w = go (eqb (field 8 23 w) 0) (fraction 23 w) (mod-lt w (pow_pos 23))
  where
    go : (b : Bool) (t : ℕ) → t < 2 ^ 23 → cond b t (2 ^ 23 + t) < 2 ^ 24
    go true t h = omega arith
    go false t h = omega arith

pub infinite_field : (s : Bool) → Finite (sign_bit s + 0x7F80_0000) → ⊥
infinite_field true h = lt_irrefl 255 h
infinite_field false h = lt_irrefl 255 h

-- ---- numbers of binary32's precision and range
pub amount_lt : (m x : ℕ) → m < 2 ^ 24 → x ≤ 253 → m * 2 ^ x < too_large
amount_lt m x digits place =
    let most : m ≤ 2 ^ 24 - 1 = omega arith in
    lt_of_le_of_lt (mul-le-mul most (pow_mono {i = x} {j = 253} place)) (lit< tt)

-- m * 2 ^ e, counted in the smallest value
pub amount_worth : (m : ℕ) (e : ℤ) → neg_ℤ (pos 149) ≤ℤ e → m * up e * 2 ^ 149 ≡ m * 2 ^ nat_abs (e +ℤ pos 149) * down e
amount_worth m e low =
    let place : parts.up e + 149 ≡ nat_abs (e +ℤ pos 149) + parts.down e = omega (arith, ints) in
    let p : 2 ^ (parts.up e + 149) ≡ 2 ^ (nat_abs (e +ℤ pos 149) + parts.down e) = ap (λ (x : ℕ). 2 ^ x) place in
    rw (up_is e, down_is e) (simp mul_assoc (ap (λ (x : ℕ). m * x) (simp pow-add at p)))
