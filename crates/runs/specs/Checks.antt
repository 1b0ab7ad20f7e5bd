-- What a run was opened with, and why a feed is refused: its checks in their order, the first faulty row deciding.
use Rattle.std.specs.Prelude.{ℕ, ◌+◌, Bool, not, List, [], ◌∷◌, length, ℤ, None, Option, ◌==◌, nat_lt}
use Rattle.refusals.specs.declared.Refusal.{Refusal}
use Rattle.refusals.specs.declared.Refusal.TheVariants.{RowLimit, WeightNotTakenAt, WordCount, ColumnsDiffer}
use Rattle.refusals.specs.Refusing.{refuse, first}
use Rattle.formats.specs.Coding.{Decoded}
use Rattle.alignment.specs.Tile.{Tile, length_check}
use Rattle.alignment.specs.Cutting.{word_check}
use Rattle.sheets.specs.Page.{Page, line}
use Rattle.units.specs.Meaning.{Meaning, columns_of, untaken}

-- what opening settles: the format's least exponent, the extra bits, and the unit's columns, room for rows and weights
pub record Setting : Type 0 where
  pub least : ℤ
  pub extra : ℕ
  pub columns : ℕ
  pub limit : ℕ
  pub takes : ℤ → Bool

-- the setting of a least exponent, extra bits and a unit
abbrev pub setting : ℤ → ℕ → Meaning → Setting
setting least extra unit = record { least = least; extra = extra; columns = columns_of unit; limit = unit.limit; takes = unit.takes }

-- a row's word is finite and not above the shared exponent, and then all its weights are taken
abbrev pub row_check : ℤ → (ℤ → Bool) → ℕ → Option Decoded → List ℤ → Option Refusal
row_check shared takes row word weights = first (word_check shared row word) (untaken takes (WeightNotTakenAt row) 0 weights)

-- the first faulty row, the rows being counted on from `row`
abbrev pub rows_check : ℤ → (ℤ → Bool) → Page → ℕ → Tile → Option Refusal
rows_check shared takes sheet row [] = None
rows_check shared takes sheet row (word ∷ words) = first (row_check shared takes row word (line sheet row)) (rows_check shared takes sheet (row + 1) words)

-- the checks of a feed, after so many rows: the words' number, then the sheet's rows and columns, the unit's room, and each row
abbrev pub feed_check : Setting → ℤ → ℕ → Tile → Page → Option Refusal
feed_check z shared rows words sheet =
    first (length_check words)
    (first (refuse (not (length words == sheet.rows)) WordCount)
    (first (refuse (not (sheet.columns == z.columns)) ColumnsDiffer)
    (first (refuse (nat_lt z.limit (rows + length words)) RowLimit)
    (rows_check shared z.takes sheet 0 words))))
