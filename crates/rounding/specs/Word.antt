-- What the calls of this crate give, by the toolchain's own definitions of IEEE 754.
use Rattle.std.specs.Prelude.{ℕ, ◌*◌, ◌/◌, ◌%◌, Bool, true, false, ℤ, pos, negsuc, ◌+ℤ◌, ◌-ℤ◌, neg_ℤ, to_bits, unsigned_abs, Float}
use Prim.Native.Nat.{compare}
use Rattle.std.specs.Float.{binary32}
use Rattle.std.specs.Float.Ieee.{up, down, size, nearest, round}
use Rattle.std.specs.Int.{int_max}

-- whether a total lies below 0
abbrev pub below_zero : ℤ → Bool
below_zero (pos n) = false
below_zero (negsuc n) = true

-- total times 2 to the power step, rounded once: 2 to the power step is the fraction up step / down step
abbrev pub rounded : ℤ → ℤ → Float
rounded total step = round binary32 (below_zero total) (unsigned_abs total * up step) (down step)

-- the word of that
abbrev pub nearest_word : ℤ → ℤ → ℕ
nearest_word total step = to_bits binary32 (rounded total step)

-- the same of a magnitude
abbrev pub unsigned_word : ℕ → ℤ → ℕ
unsigned_word magnitude step = to_bits binary32 (round binary32 false (magnitude * up step) (down step))

-- a / b to the nearest whole number, a tie to the even one
abbrev pub nearest_whole : ℕ → ℕ → ℕ
nearest_whole a b = nearest (a / b) (compare (a % b * 2) b)

-- which power of two the last of the 24 digits of m * 2 ^ step stands for, and at least the smallest value's
abbrev pub last_place : ℕ → ℤ → ℤ
last_place m step = int_max (step +ℤ pos (size m) -ℤ pos 24) (neg_ℤ (pos 149))
