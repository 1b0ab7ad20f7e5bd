-- What it is to be the binary32 word nearest to total times 2 to the power step, by the decoding of the formats.
use Rattle.std.specs.Prelude.{◌≡◌, ℕ, ◌+◌, ◌-◌, ◌*◌, ◌%◌, ◌^◌, ◌<◌, ◌≤◌, cond, ◌⊎◌, ℤ, pos, negsuc, ◌*ℤ◌, Some, unsigned_abs}
use Rattle.std.specs.Float.Ieee.{up, down}
use Rattle.formats.specs.Coding.{Decoded, Coding, Shaped, units_of}
use Rattle.formats.specs.Interchange.{sign, coding}
use Rattle.rounding.specs.Word.{below_zero}

-- binary32: an exponent field of 8 bits and a fraction of 23
abbrev pub layout : Coding ℕ
layout = coding 8 23

-- a word is finite, and this is its number
abbrev pub Decodes : ℕ → Decoded → Type 0
Decodes w d = layout.decode w ≡ Some d

-- the magnitude of a word's number in units of 2 ^ -149, the smallest one: every finite word has a whole number of them
abbrev pub amount : Decoded → ℕ
amount d = units_of layout.least d

-- The magnitude of total times 2 to the power step, which is up step / down step, in units of 2 ^ -149 / down step: a whole number of them, too.
abbrev pub exactly : ℤ → ℤ → ℕ
exactly total step = unsigned_abs total * up step * 2 ^ 149

-- how far two numbers are from one another
abbrev pub distance : ℕ → ℕ → ℕ
distance a b = (a - b) + (b - a)

-- how far a word's number is from it in magnitude
abbrev pub off : ℤ → ℤ → Decoded → ℕ
off total step d = distance (amount d * down step) (exactly total step)

-- 2 ^ 128 - 2 ^ 103 in units of 2 ^ -149
abbrev pub too_large : ℕ
too_large = 2 ^ 277 - 2 ^ 252

-- the word r is the one nearest to total times 2 to the power step
pub record Nearest (total step : ℤ) (r : ℕ) : Type 0 where
  -- it has the sign of the total, also where it is 0
  pub signed : sign 8 23 r ≡ cond (below_zero total) (negsuc 0) (pos 1)
  -- from 2 ^ 128 - 2 ^ 103 on it is an infinity, and below that finite
  pub infinite : too_large * down step ≤ exactly total step → r % 2 ^ 31 ≡ 0x7F80_0000
  pub finite : exactly total step < too_large * down step → (d : Decoded) × Decodes r d
  -- no finite word is nearer
  pub least : (d e : Decoded) (w : ℕ) → Decodes r d → Decodes w e → off total step d ≤ off total step e
  -- where one of another magnitude is as near, the significand is even
  pub even : (d e : Decoded) (w : ℕ) → Decodes r d → Decodes w e → off total step e ≡ off total step d → (amount e ≡ amount d) ⊎ (d.1 % 2 ≡ 0)

-- `Nearest` leaves no choice: no other word of 32 bits is the nearest
abbrev pub Only : ℤ → ℤ → ℕ → Type 0
Only total step r = (w : ℕ) → w < 2 ^ 32 → Nearest total step w → w ≡ r

-- sign * significand * 2 ^ exponent is total * 2 ^ step, with both sides times the two powers' denominators
abbrev pub Worth : ℤ → ℤ → Decoded → Type 0
Worth total step d = d.0 *ℤ pos (d.1 * up d.2 * down step) ≡ total *ℤ pos (up step * down d.2)

-- Where total times 2 to the power step is a number of binary32's precision and range, nothing is rounded: decoding the word gives it back.
abbrev pub GivenBack : ℤ → ℤ → ℕ → Type 0
GivenBack total step r = (d : Decoded) → Shaped layout d → Worth total step d → (e : Decoded) × Decodes r e × Worth total step e
