-- How the words of a layout run through its values, whatever the widths.
use Rattle.std.specs.Prelude.{◌≡◌, ℕ, ◌+◌, ◌-◌, ◌*◌, ◌^◌, ◌<◌, ◌≤◌, ℤ, pos, ◌-ℤ◌, neg_ℤ, Some, None, Option, unsigned_abs}
use Rattle.formats.specs.Coding.{Decoded, units_of}
use Rattle.formats.specs.Interchange.{exponent, interchange}

-- both are finite and of one sign, and the second is greater in magnitude by one in the last place of the first
abbrev pub OneUp : ℤ → Option Decoded → Option Decoded → Type 0
OneUp least None o = ⊥
OneUp least (Some d) None = ⊥
OneUp least (Some d) (Some e) = (e.0 ≡ d.0) × (units_of least e ≡ units_of least d + 2 ^ unsigned_abs (d.2 -ℤ least))

-- neither is finite, or they differ in their sign alone
abbrev pub Opposite : Option Decoded → Option Decoded → Type 0
Opposite None None = Unit {0}
Opposite None (Some e) = ⊥
Opposite (Some d) None = ⊥
Opposite (Some d) (Some e) = (e.0 ≡ neg_ℤ d.0) × (e.1 ≡ d.1) × (e.2 ≡ d.2)

-- the words of x exponent bits and n fraction bits count through the values
pub record CountsUp (x n : ℕ) : Type 0 where
  -- the word 0 is zero
  pub from : interchange x n 0 ≡ Some (pos 1, 0, exponent x n 1)
  -- each next word is one up, as long as its field is not all ones
  pub next : (w : ℕ) → w + 1 < (2 ^ x - 1) * 2 ^ n → OneUp (exponent x n 1) (interchange x n w) (interchange x n (w + 1))
  -- from there on no word is finite
  pub end : (w : ℕ) → (2 ^ x - 1) * 2 ^ n ≤ w → w < 2 ^ (n + x) → interchange x n w ≡ None
  -- and with the sign bit all is repeated with the other sign
  pub mirrored : (w : ℕ) → w < 2 ^ (n + x) → Opposite (interchange x n w) (interchange x n (w + 2 ^ (n + x)))

-- So zero, the step from each word to the next, and the sign settle what every word of every layout is worth.
abbrev pub WordsCountUp : Type 0
WordsCountUp = (x n : ℕ) → 1 ≤ x → CountsUp x n
