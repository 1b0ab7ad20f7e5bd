-- The laws of total, slack and exact sum.
use Rattle.std.specs.Prelude.{◌≡◌, ℕ, ◌*◌, ◌<◌, T, List, ℤ, pos, ◌-ℤ◌, ◌*ℤ◌, unsigned_abs}
use Rattle.std.specs.List.{AllByRecursion}
use Rattle.sums.specs.Terms.{Term, total, slack, exact, lost, count}

-- A total and a slack tell where an exact sum lies: at the total where the slack is 0, and otherwise less than slack steps
-- from it. The total counts steps and the exact sum grains, so that total × step is the total in grains.
pub record Tells (step : ℕ) (total : ℤ) (slack : ℕ) (exact : ℤ) : Type 0 where
  pub exactly : slack ≡ 0 → total *ℤ pos step ≡ exact
  pub nearly : 0 < slack → unsigned_abs (exact -ℤ total *ℤ pos step) < slack * step

-- the total and the slack of any list of terms tell where its exact sum lies
abbrev pub WithinSlack : Type 0
WithinSlack = (s : ℕ) (ts : List Term) → 0 < s → Tells s (total s ts) (slack s ts) (exact ts)

-- a term that was not lost, or weighs nothing
abbrev pub Harmless : ℕ → Term → Type 0
Harmless s t = T (lost s t.value) → t.weight ≡ pos 0

-- the slack is 0 exactly when no term with a weight other than 0 was lost
abbrev pub ZeroSlack : Type 0
ZeroSlack = (s : ℕ) (ts : List Term) → (slack s ts ≡ 0 → AllByRecursion (Harmless s) ts) × (AllByRecursion (Harmless s) ts → slack s ts ≡ 0)

-- two lists have the same terms, each as often
abbrev pub SameTerms : List Term → List Term → Type 0
SameTerms ts us = (t : Term) → count t ts ≡ count t us

-- the same terms, each as often, in any order, have one total and one slack
abbrev pub OrderFree : Type 0
OrderFree = (s : ℕ) (ts us : List Term) → SameTerms ts us → (total s ts ≡ total s us) × (slack s ts ≡ slack s us)
