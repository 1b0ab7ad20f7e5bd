-- How many columns a unit or a sheet may have.
use Rattle.std.specs.Prelude.{ℕ, ◌||◌, Option, ◌==◌, nat_lt}
use Rattle.refusals.specs.declared.Refusal.{Refusal}
use Rattle.refusals.specs.declared.Refusal.TheVariants.{ColumnCount}
use Rattle.refusals.specs.Refusing.{refuse}

-- there are 1 to 16 columns
abbrev pub columns_check : ℕ → Option Refusal
columns_check columns = refuse (columns == 0 || nat_lt 16 columns) ColumnCount
