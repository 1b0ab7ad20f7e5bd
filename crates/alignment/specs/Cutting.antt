-- A tile cut to a step: what refuses it, and the aligned numbers.
use Rattle.std.specs.Prelude.{ℕ, ◌+◌, ◌^◌, ◌<◌, false, [], ◌∷◌, ℤ, pos, Some, None, Option, int_lt, unsigned_abs}
use Rattle.refusals.specs.declared.Refusal.{Refusal}
use Rattle.refusals.specs.declared.Refusal.TheVariants.{NotFinite, AboveShared}
use Rattle.refusals.specs.Refusing.{refuse, first}
use Rattle.formats.specs.Coding.{Decoded}
use Rattle.sums.specs.Terms.{value, step_of, cut, lost}
use Rattle.alignment.specs.Tile.{Tile, length_check}
use Rattle.alignment.specs.declared.checked.Step.{Step}
use Rattle.alignment.specs.declared.cutting.Aligned.{Aligned}

-- the step in grains
abbrev pub step_size : Step → ℕ
step_size s = step_of s.shared.exponent s.extra.bits

-- the word of a row is finite, and its exponent is not above the shared one
abbrev pub word_check : ℤ → ℕ → Option Decoded → Option Refusal
word_check shared row None = Some (NotFinite row)
word_check shared row (Some d) = refuse (int_lt shared d.2) (AboveShared row)

-- the first faulty word, the rows being counted on from `row`
abbrev pub words_check : ℤ → ℕ → Tile → Option Refusal
words_check shared row [] = None
words_check shared row (t ∷ ts) = first (word_check shared row t) (words_check shared (row + 1) ts)

-- the checks of cutting a tile
abbrev pub cut_check : ℤ → Tile → Option Refusal
cut_check shared ts = first (length_check ts) (words_check shared 0 ts)

-- no steps, nothing lost
abbrev pub nothing : Aligned
nothing = record { number = pos 0; lost = false }

-- the value of a word in whole steps, cut towards zero, and whether that is not all of it
abbrev pub aligned : ℕ → Option Decoded → Aligned
aligned step None = nothing
aligned step (Some d) = record { number = cut step (value d); lost = lost step (value d) }

-- a number below 2^36 in magnitude
abbrev pub Small : Aligned → Type 0
Small a = unsigned_abs a.number < 2 ^ 36
