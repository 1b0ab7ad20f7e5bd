-- What a column adds up, and what is lost on the way.
-- Values, steps and sums are counted in grains of 2^-412: an exponent is at least -400 and there are at most 12 extra bits,
-- so that a value and a step are whole numbers of grains, whatever the format.
use Rattle.std.specs.Prelude.{ℕ, ◌+◌, ◌*◌, ◌%◌, ◌^◌, Bool, cond, not, ◌&&◌, List, [], ◌∷◌, ℤ, pos, ◌+ℤ◌, ◌-ℤ◌, ◌*ℤ◌, ◌==◌, int_div, unsigned_abs}

-- 2^k in grains, from k = -412 on
abbrev pub grains : ℤ → ℕ
grains k = 2 ^ unsigned_abs (k +ℤ pos 412)

-- sign × significand × 2^exponent in grains
abbrev pub value : ℤ × ℕ × ℤ → ℤ
value d = d.0 *ℤ pos (d.1 * grains d.2)

-- the step of a shared exponent and so many extra bits, in grains
abbrev pub step_of : ℤ → ℕ → ℕ
step_of shared extra = grains (shared -ℤ pos extra)

-- a value, in grains, and its weight in a column
pub record Term : Type 0 where
  pub value : ℤ
  pub weight : ℤ

-- v / s, cut towards zero
abbrev pub cut : ℕ → ℤ → ℤ
cut s v = int_div v (pos s)

-- v / s is not whole
abbrev pub lost : ℕ → ℤ → Bool
lost s v = not (unsigned_abs v % s == 0)

-- the sum of the cut values times their weights
abbrev pub total : ℕ → List Term → ℤ
total s [] = pos 0
total s (t ∷ ts) = cut s t.value *ℤ t.weight +ℤ total s ts

-- |weight| of a lost term, 0 of any other
abbrev pub loss : ℕ → Term → ℕ
loss s t = cond (lost s t.value) (unsigned_abs t.weight) 0

-- the sum of |weight| over the lost terms
abbrev pub slack : ℕ → List Term → ℕ
slack s [] = 0
slack s (t ∷ ts) = loss s t + slack s ts

-- the sum of value × weight, in grains
abbrev pub exact : List Term → ℤ
exact [] = pos 0
exact (t ∷ ts) = t.value *ℤ t.weight +ℤ exact ts

-- two terms have one value and one weight
abbrev pub same_term : Term → Term → Bool
same_term t u = unsigned_abs (t.value -ℤ u.value) == 0 && unsigned_abs (t.weight -ℤ u.weight) == 0

-- how often a term stands in a list
abbrev pub count : Term → List Term → ℕ
count t [] = 0
count t (u ∷ us) = cond (same_term t u) 1 0 + count t us
