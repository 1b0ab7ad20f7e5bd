-- A word in hexadecimal.
use Rattle.std.specs.Prelude.{◌≡◌, ℕ, ◌*◌, ◌/◌, ◌%◌, ◌^◌, ◌<◌, List, [], ◌∷◌, map, codes, slice_index}
use Rattle.std.specs.Str.Parse.{digits_value}

-- the sixteen digits, each at the place of its value
abbrev pub hex_digits : List ℕ
hex_digits = codes "0123456789ABCDEF"

-- the digit of a word at a place, counted from the lowest: four bits each
abbrev pub hex_digit : ℕ → ℕ → ℕ
hex_digit word place = slice_index hex_digits (word / 2 ^ (4 * place) % 16)

-- eight digits, the highest first
abbrev pub hex_text : ℕ → List ℕ
hex_text word = map (hex_digit word) (7 ∷ 6 ∷ 5 ∷ 4 ∷ 3 ∷ 2 ∷ 1 ∷ 0 ∷ [])

-- the text of a 32-bit word, read in base 16, is the word
abbrev pub HexReadsBack : Type 0
HexReadsBack = (word : ℕ) → word < 2 ^ 32 → digits_value 16 (hex_text word) ≡ word
