-- What `{:08X}` writes of a word: its eight digits.
use Rattle.std.proofs.Common.{◌≡◌, ℕ, zero, suc, ◌+◌, ◌-◌, ◌*◌, ◌/◌, ◌%◌, ◌^◌, ◌<◌, ◌==◌, Bool, true, false, if◌then◌else◌, List, [], ◌∷◌, ◌++◌, length, map, replicate, get_or, sym, refl, ap, ◌∙◌, arith, append_assoc, zero-add}
use Rattle.std.specs.List.{range_with_len}
use Rattle.std.specs.Fmt.{digits, digits_onto, digit_glyph, padded_integral, format_spec}
use Rattle.std.proofs.Math.Nat.{pow-suc}
use Rattle.std.proofs.DigitsParse.{digits_onto-nil}
use Rattle.std.proofs.Padding.{padded_integral_zeros}
use Rattle.std.proofs.lemmas.Bool.{eqb-true, eqb-false}
use Rattle.std.proofs.lemmas.List.FromFn.{get_or-map-range_with_len}
use Rattle.std.proofs.lemmas.List.{replicate_more}
use Rattle.listing.specs.Hex.{hex_digits, hex_digit, hex_text}

-- the last digit of a number, in front of a text
abbrev last : ℕ → List ℕ → List ℕ
last n text = digit_glyph true (n % 16) ∷ text

-- the lowest k digits
abbrev lowest : ℕ → ℕ → List ℕ → List ℕ
lowest zero n text = text
lowest (suc k) n text = lowest k (n / 16) (last n text)

lowest_zero : (k : ℕ) (text : List ℕ) → lowest k 0 text ≡ replicate k 48 ++ text
lowest_zero zero text = refl
lowest_zero (suc k) text =
    lowest_zero k (48 ∷ text)
    ∙ sym (append_assoc (replicate k 48) (48 ∷ []) text)
    ∙ ap (λ (front : List ℕ). front ++ text) (replicate_more k 48 ∙ ap (λ (m : ℕ). replicate m 48) {x = k + 1} {y = suc k} (omega arith))

-- what is shown of a number in front of a text, filled up to k digits by zeros
abbrev filled : ℕ → List ℕ → List ℕ → List ℕ
filled k text shown = replicate (k + length text - length shown) 48 ++ shown

-- one digit more: it is the first, or others stand before it
more : (k j n : ℕ) (text : List ℕ) → (0 < n / 16 → filled k (last n text) (digits_onto j 16 true (n / 16) (last n text)) ≡ lowest k (n / 16) (last n text)) → filled (suc k) text (digits_onto (suc j) 16 true n text) ≡ lowest (suc k) n text
more k j n text before = by (n / 16 == 0) refl
  where
    shown : List ℕ
    shown = digits_onto j 16 true (n / 16) (last n text)

    by : (first : Bool) → (n / 16 == 0) ≡ first → filled (suc k) text (if first then last n text else shown) ≡ lowest (suc k) n text
    by true e =
        ap (λ (m : ℕ). replicate m 48 ++ last n text) {x = suc k + length text - suc (length text)} {y = k} (omega arith)
        ∙ sym (lowest_zero k (last n text))
        ∙ ap (λ (m : ℕ). lowest k m (last n text)) (sym (eqb-true (n / 16) 0 e))
    by false e =
        ap (λ (m : ℕ). replicate (m - length shown) 48 ++ shown) {x = suc k + length text} {y = k + suc (length text)} (omega arith)
        ∙ before (omega (arith, eqb-false (n / 16) 0 e))

filled_is_lowest : (k j n : ℕ) (text : List ℕ) → k < j → n < 16 ^ suc k → filled (suc k) text (digits_onto j 16 true n text) ≡ lowest (suc k) n text
filled_is_lowest k zero n text room small = absurd (omega arith)
filled_is_lowest zero (suc j) n text room small = more 0 j n text (λ some. absurd (omega arith))
filled_is_lowest (suc k) (suc j) n text room small =
    more (suc k) j n text (λ some. filled_is_lowest k j (n / 16) (last n text) (omega arith) (omega (arith, pow-suc 16 (suc k))))

-- the library writes the sixteen digits of the table
glyphs : map (digit_glyph true) (range_with_len 0 16) ≡ hex_digits
glyphs = refl

glyph : (word place rest : ℕ) → word / 2 ^ (4 * place) ≡ rest → digit_glyph true (rest % 16) ≡ hex_digit word place
glyph word place rest same =
    sym (get_or-map-range_with_len (digit_glyph true) 0 16 (rest % 16) (rest % 16) 0 (omega arith) (zero-add (rest % 16)))
    ∙ ap (λ (table : List ℕ). get_or table (rest % 16) 0) glyphs
    ∙ ap (λ (r : ℕ). get_or hex_digits (r % 16) 0) (sym same)

pub printed : (word : ℕ) → word < 2 ^ 32 → padded_integral (format_spec 32 0 4 8 (2 ^ 64 - 1)) false [] (digits 16 true word) ≡ hex_text word
printed word small =
    let w1 = word / 16 in
    let w2 = w1 / 16 in
    let w3 = w2 / 16 in
    let w4 = w3 / 16 in
    let w5 = w4 / 16 in
    let w6 = w5 / 16 in
    let w7 = w6 / 16 in
    padded_integral_zeros (format_spec 32 0 4 8 (2 ^ 64 - 1)) (digits 16 true word) refl refl
    ∙ ap (filled 8 []) (sym (digits_onto-nil 16 true word))
    ∙ filled_is_lowest 7 64 word [] (omega arith) (omega arith)
    ∙ (λ i. glyph word 7 w7 (omega arith) i ∷ glyph word 6 w6 (omega arith) i ∷ glyph word 5 w5 (omega arith) i ∷ glyph word 4 w4 (omega arith) i ∷ glyph word 3 w3 (omega arith) i ∷ glyph word 2 w2 (omega arith) i ∷ glyph word 1 w1 (omega arith) i ∷ glyph word 0 word (omega arith) i ∷ [])
