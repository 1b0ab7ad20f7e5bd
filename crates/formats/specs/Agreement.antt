-- The decoding of binary32 beside the toolchain's own definition of IEEE 754, and that of each layout beside wider ones.
use Rattle.std.specs.Prelude.{◌≡◌, ℕ, ◌*◌, ◌^◌, not, pos, ◌-ℤ◌, neg_ℤ, Some, None, Option, Float}
use Rattle.std.specs.Int.Signed.{non_neg}
use Rattle.std.specs.Float.{nan, inf, fin}
use Rattle.std.specs.Float.Ieee.Exact.{HasValue}
use Rattle.formats.specs.Coding.{Decoded, units_of}

-- an infinity, or not a number
abbrev pub NotFinite : Float → Type 0
NotFinite nan = Unit {0}
NotFinite (inf s) = Unit {0}
NotFinite (fin s m e) = ⊥

-- what is decoded, and the float: neither is finite, or both are the same number with the same sign, counted in units of 2^-149
abbrev pub Same : Option Decoded → Float → Type 0
Same None x = NotFinite x
Same (Some d) x = HasValue x (not (non_neg d.0)) (units_of (neg_ℤ (pos 149)) d) (2 ^ 149)

-- the same number written with k places more, or neither finite: the significand is 2^k times as large, and the exponent k less
abbrev pub Widened : ℕ → Option Decoded → Option Decoded → Type 0
Widened k None None = Unit {0}
Widened k None (Some e) = ⊥
Widened k (Some d) None = ⊥
Widened k (Some d) (Some e) = (e.0 ≡ d.0) × (e.1 ≡ d.1 * 2 ^ k) × (e.2 ≡ d.2 -ℤ pos k)
