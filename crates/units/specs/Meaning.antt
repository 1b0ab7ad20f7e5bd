-- What a unit means, what its calls do to that meaning, and when they refuse.
use Rattle.std.specs.Prelude.{ℕ, ◌+◌, ◌*◌, ◌^◌, ◌≤◌, Bool, cond, not, T, List, [], ◌∷◌, map, length, replicate, ℤ, pos, ◌+ℤ◌, ◌*ℤ◌, Some, None, Option, Result, ◌==◌, nat_le, slice_index_or, unsigned_abs}
use Rattle.std.specs.List.{position_from}
use Rattle.refusals.specs.declared.Refusal.{Refusal}
use Rattle.refusals.specs.declared.Refusal.TheVariants.{WeightCount, RowLimit, NumberTooLarge, WeightNotTaken, NoSuchColumn}
use Rattle.refusals.specs.Refusing.{refuse, first, answer, unless}

-- the rows added, the rows that there is room for, one total for each column, and which weights are taken
pub record Meaning : Type 0 where
  pub rows : ℕ
  pub limit : ℕ
  pub totals : List ℤ
  pub takes : ℤ → Bool

-- how many columns a unit has
abbrev pub columns_of : Meaning → ℕ
columns_of m = length m.totals

-- the most that so many rows make of a total: an aligned number lies below 2^36, a weight at or below 255
abbrev pub reach : ℕ → ℕ
reach rows = rows * (255 * 2 ^ 36)

-- none of the numbers is greater than n in magnitude
abbrev pub Bounded : ℕ → List ℤ → Type 0
Bounded n ts = (c : ℕ) → unsigned_abs (slice_index_or ts c (pos 0)) ≤ n

-- what holds of every unit
pub record Lawful (m : Meaning) : Type 0 where
  pub some_column : 1 ≤ columns_of m
  pub few_columns : columns_of m ≤ 16
  pub some_row : 1 ≤ m.limit
  pub few_rows : m.limit ≤ 65536
  pub within : m.rows ≤ m.limit
  pub taken : (w : ℤ) → T (m.takes w) → unsigned_abs w ≤ 255
  pub bounded : Bounded (reach m.rows) m.totals

-- each number of the first list plus the one beside it in the second, where there is one
abbrev pub plus_each : List ℤ → List ℤ → List ℤ
plus_each [] ys = []
plus_each (x ∷ xs) [] = x ∷ xs
plus_each (x ∷ xs) (y ∷ ys) = (x +ℤ y) ∷ plus_each xs ys

-- each total grows by a × its weight
abbrev pub grown : List ℤ → ℤ → List ℤ → List ℤ
grown ts a ws = plus_each ts (map (λ w. a *ℤ w) ws)

-- a unit with one row more
abbrev pub added : Meaning → ℤ → List ℤ → Meaning
added m a ws = record m { rows = m.rows + 1; totals = grown m.totals a ws }

-- a unit with no rows
abbrev pub cleared : Meaning → Meaning
cleared m = record m { rows = 0; totals = replicate (columns_of m) (pos 0) }

-- the first column whose weight is not taken
abbrev pub first_untaken : (ℤ → Bool) → List ℤ → Option ℕ
first_untaken takes ws = position_from (λ w. not (takes w)) 0 ws

-- the refusal of the first weight that is not taken, its column counted on from `column`
abbrev pub untaken : (ℤ → Bool) → (ℕ → Refusal) → ℕ → List ℤ → Option Refusal
untaken takes refusal column [] = None
untaken takes refusal column (w ∷ ws) = cond (takes w) (untaken takes refusal (column + 1) ws) (Some (refusal column))

-- an aligned number lies below 2^36 in magnitude
abbrev pub number_check : ℤ → Option Refusal
number_check a = refuse (nat_le (2 ^ 36) (unsigned_abs a)) NumberTooLarge

-- what refuses an add
abbrev pub add_check : Meaning → ℤ → List ℤ → Option Refusal
add_check m a ws =
    first (refuse (not (length ws == columns_of m)) WeightCount)
    (first (refuse (nat_le m.limit m.rows) RowLimit)
    (first (number_check a)
    (untaken m.takes WeightNotTaken 0 ws)))

-- what a call of add leaves
abbrev pub after_add : Meaning → ℤ → List ℤ → Meaning
after_add m a ws = unless (add_check m a ws) m (added m a ws)

-- what refuses the question for a total
abbrev pub column_check : ℕ → ℕ → Option Refusal
column_check columns c = refuse (nat_le columns c) NoSuchColumn

-- what the question for a total answers
abbrev pub total_at : Meaning → ℕ → Result ℤ Refusal
total_at m c = answer (column_check (columns_of m) c) (slice_index_or m.totals c (pos 0))
