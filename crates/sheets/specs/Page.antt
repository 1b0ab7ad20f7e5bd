-- What a sheet means, rows and columns of weights, and what it answers.
use Rattle.std.specs.Prelude.{ℕ, ◌≤◌, not, ◌||◌, List, map, ℤ, Option, ◌==◌, nat_le, unsigned_abs}
use Rattle.std.specs.List.{range_with_len}
use Rattle.refusals.specs.declared.Refusal.{Refusal}
use Rattle.refusals.specs.declared.Refusal.TheVariants.{OutsideSheet, WeightCount}
use Rattle.refusals.specs.Refusing.{refuse, first}

-- so many rows and columns, and the weight in each row and column
pub record Page : Type 0 where
  pub rows : ℕ
  pub columns : ℕ
  pub weight : ℕ → ℕ → ℤ

-- the bounds that every sheet keeps
pub record Lawful (m : Page) : Type 0 where
  pub few_rows : m.rows ≤ 128
  pub some_column : 1 ≤ m.columns
  pub few_columns : m.columns ≤ 16
  pub small : (row column : ℕ) → unsigned_abs (m.weight row column) ≤ 255

-- a row or a column that is not there is refused
abbrev pub outside_check : ℕ → ℕ → ℕ → ℕ → Option Refusal
outside_check rows columns row column = refuse (nat_le rows row || nat_le columns column) OutsideSheet

-- the same of a page
abbrev pub place_check : Page → ℕ → ℕ → Option Refusal
place_check m row column = outside_check m.rows m.columns row column

-- a row that is not there is refused, and then a buffer that has not one place for each column
abbrev pub row_check : Page → ℕ → ℕ → Option Refusal
row_check m row room = first (refuse (nat_le m.rows row) OutsideSheet) (refuse (not (room == m.columns)) WeightCount)

-- the weights of a row, column by column
abbrev pub line : Page → ℕ → List ℤ
line m row = map (m.weight row) (range_with_len 0 m.columns)
