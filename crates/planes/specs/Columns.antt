-- The columns of a plane unit: eight sums each, one for each power of two.
use Rattle.std.specs.Prelude.{◌≡◌, ℕ, zero, suc, ◌/◌, ◌%◌, ◌<◌, Bool, cond, ◌&&◌, T, List, [], ◌∷◌, length, ℤ, pos, ◌+ℤ◌, ◌*ℤ◌, neg_ℤ, ◌==◌, nat_le, slice_index_or, unsigned_abs}
use Rattle.units.specs.Meaning.{Bounded, plus_each}

-- the odd weights of -255 to 255
abbrev pub takes_odd : ℤ → Bool
takes_odd w = nat_le (unsigned_abs w) 255 && unsigned_abs w % 2 == 1

-- the bits of the code say for each power of two whether the weight has it with + or with -
abbrev pub code : ℤ → ℕ
code w = unsigned_abs (w +ℤ pos 255) / 2

-- a where the lowest bit is 1, else -a
abbrev pub signed : ℤ → ℕ → ℤ
signed a bits = cond (bits % 2 == 1) a (neg_ℤ a)

-- a or -a for each of so many bits, the lowest first
abbrev pub signs : ℕ → ℤ → ℕ → List ℤ
signs zero a bits = []
signs (suc k) a bits = signed a bits ∷ signs k a (bits / 2)

-- sums for the powers of two, the lowest first, each taken as often as its power says
abbrev pub weigh : List ℤ → ℤ
weigh [] = pos 0
weigh (s ∷ ss) = s +ℤ (weigh ss +ℤ weigh ss)

-- for every number and every weight that the unit takes, the eight signs weigh number × weight
unfoldable pub SignsWeigh : Type 0
SignsWeigh = (a w : ℤ) → T (takes_odd w) → weigh (signs 8 a (code w)) ≡ a *ℤ w

-- each column that has a weight takes a or -a into its eight sums
abbrev pub spread : List (List ℤ) → ℤ → List ℤ → List (List ℤ)
spread [] a ws = []
spread (c ∷ cs) a [] = c ∷ cs
spread (c ∷ cs) a (w ∷ ws) = plus_each c (signs 8 a (code w)) ∷ spread cs a ws

-- each column has eight sums
abbrev pub Eights : List (List ℤ) → Type 0
Eights cs = (c : ℕ) → c < length cs → length (slice_index_or cs c []) ≡ 8

-- no sum of any column is greater than n in magnitude
abbrev pub EachBounded : ℕ → List (List ℤ) → Type 0
EachBounded n cs = (c : ℕ) → Bounded n (slice_index_or cs c [])
