-- The number of each code, and the bytes of a format's words.
use Rattle.std.specs.Prelude.{ℕ, List, [], ◌∷◌}
use Rattle.jobs.specs.declared.codes.FormatCode.{FormatCode}
use Rattle.jobs.specs.declared.codes.FormatCode.TheVariants.{Binary16, Bfloat16, Binary32, Fixed8}
use Rattle.jobs.specs.declared.codes.UnitCode.{UnitCode}
use Rattle.jobs.specs.declared.codes.UnitCode.TheVariants.{DrainMultiplier, DrainOddPlane, DrainPlane}

-- the number of a format
abbrev pub format_number : FormatCode → ℕ
format_number Binary16 = 1
format_number Bfloat16 = 2
format_number Binary32 = 3
format_number Fixed8 = 4

-- the formats that have a number
abbrev pub format_codes : List FormatCode
format_codes = Binary16 ∷ Bfloat16 ∷ Binary32 ∷ Fixed8 ∷ []

-- the number of a unit
abbrev pub unit_number : UnitCode → ℕ
unit_number DrainMultiplier = 1
unit_number DrainOddPlane = 2
unit_number DrainPlane = 3

-- the units that have a number
abbrev pub unit_codes : List UnitCode
unit_codes = DrainMultiplier ∷ DrainOddPlane ∷ DrainPlane ∷ []

-- the bytes of a word
abbrev pub word_bytes : FormatCode → ℕ
word_bytes Binary16 = 2
word_bytes Bfloat16 = 2
word_bytes Binary32 = 4
word_bytes Fixed8 = 1
