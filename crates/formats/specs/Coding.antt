-- What a format means: a decoding of every word, with the laws that it keeps.
use Rattle.std.specs.Prelude.{◌≡◌, ℕ, ◌*◌, ◌^◌, ◌<◌, ◌≤◌, ℤ, pos, ◌-ℤ◌, neg_ℤ, ◌≤ℤ◌, IfSome, Option, unsigned_abs}

-- a sign (1 or -1), a significand and an exponent: the value is sign × significand × 2^exponent
abbrev pub Decoded : Type 0
Decoded = ℤ × ℕ × ℤ

-- the magnitude of a number in units of 2^least, for an exponent that is not below
abbrev pub units_of : ℤ → Decoded → ℕ
units_of least d = d.1 * 2 ^ unsigned_abs (d.2 -ℤ least)

-- how many bits a significand has, the range of the exponents, and what each word decodes to: nothing where it is not finite
pub record Coding (W : Type 0) : Type 0 where
  pub precision : ℕ
  pub least : ℤ
  pub greatest : ℤ
  pub decode : W → Option Decoded

-- a decoded word keeps to the format's precision and range
pub record Shaped {W : Type 0} (f : Coding W) (d : Decoded) : Type 0 where
  pub sign : unsigned_abs d.0 ≡ 1
  pub significand : d.1 < 2 ^ f.precision
  pub from_least : f.least ≤ℤ d.2
  pub to_greatest : d.2 ≤ℤ f.greatest

-- the laws of a format
pub record Lawful {W : Type 0} (f : Coding W) : Type 0 where
  pub some_bit : 1 ≤ f.precision
  pub few_bits : f.precision ≤ 24
  pub low : neg_ℤ (pos 400) ≤ℤ f.least
  pub ordered : f.least ≤ℤ f.greatest
  pub high : f.greatest ≤ℤ pos 400
  pub shaped : (w : W) → IfSome (f.decode w) (Shaped f)
