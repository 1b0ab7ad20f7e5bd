-- The binary layouts of IEEE 754: from the highest bit down a sign, an exponent field of x bits and a fraction of n bits.
use Rattle.std.specs.Prelude.{ℕ, ◌+◌, ◌-◌, ◌/◌, ◌%◌, ◌^◌, cond, ℤ, pos, negsuc, ◌-ℤ◌, Some, None, Option, ◌==◌}
use Rattle.formats.specs.Coding.{Decoded, Coding}

-- the lowest n bits of a word
abbrev pub fraction : ℕ → ℕ → ℕ
fraction n w = w % 2 ^ n

-- the x bits above the fraction
abbrev pub field : ℕ → ℕ → ℕ → ℕ
field x n w = w / 2 ^ n % 2 ^ x

-- the sign by the bit above the field: 1 for a 0, -1 for a 1
abbrev pub sign : ℕ → ℕ → ℕ → ℤ
sign x n w = cond (w / 2 ^ (n + x) % 2 == 0) (pos 1) (negsuc 0)

-- the exponent of a significand's last bit under the field f: f less the bias, less the n places of the fraction
abbrev pub exponent : ℕ → ℕ → ℕ → ℤ
exponent x n f = pos f -ℤ pos (2 ^ (x - 1) - 1 + n)

-- a finite number by its sign, field and fraction: a field of 0 has no leading one, and its exponent is that of the field 1
abbrev pub number : ℕ → ℕ → ℤ → ℕ → ℕ → Decoded
number x n s f t = cond (f == 0) (s, t, exponent x n 1) (s, 2 ^ n + t, exponent x n f)

-- a word: a field of all ones is not finite
abbrev pub interchange : ℕ → ℕ → ℕ → Option Decoded
interchange x n w = cond (field x n w == 2 ^ x - 1) None (Some (number x n (sign x n w) (field x n w) (fraction n w)))

-- the format of these widths
abbrev pub coding : ℕ → ℕ → Coding ℕ
coding x n = record { precision = n + 1; least = exponent x n 1; greatest = exponent x n (2 ^ x - 2); decode = interchange x n }

-- a format whose words are read as numbers
abbrev pub written : {W : Type 0} → (W → ℕ) → Coding ℕ → Coding W
written number_of f = record { precision = f.precision; least = f.least; greatest = f.greatest; decode = λ w. f.decode (number_of w) }
