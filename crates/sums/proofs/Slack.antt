-- Where the exact sum lies, and when the slack is 0.
use Rattle.std.proofs.Common.{◌≡◌, ℕ, ◌+◌, ◌-◌, ◌*◌, ◌%◌, ◌<◌, ◌≤◌, Bool, true, false, cond, not, T, eqb, List, [], ◌∷◌, ℤ, pos, ◌+ℤ◌, ◌-ℤ◌, ◌*ℤ◌, nat_abs, sym, refl, ap, ◌∙◌, mod-lt, mul_comm, add-mul, mul-le-mul_left, mul-add, arith}
use lib.Signed.{rem_z}
use borrow.Author.Differences.{ints}
use Rattle.std.specs.List.{AllByRecursion}
use Rattle.std.proofs.lemmas.Bool.{eqb-true}
use Rattle.std.proofs.lemmas.Int.{quot-rem, unsigned_abs-mul}
use Rattle.sums.specs.Terms.{Term, cut, lost, loss, total, slack, exact}
use Rattle.sums.specs.Laws.{Tells, Harmless}
use Rattle.integers.proofs.Laws.{abs_sum, sum_product, product_swap, abs_rest}

-- what a term's cut leaves out is its rest times its weight
left_out : (s : ℕ) (v w : ℤ) → v *ℤ w ≡ (cut s v *ℤ w) *ℤ pos s +ℤ rem_z v (pos s) *ℤ w
left_out s v w =
    ap (λ x. x *ℤ w) (sym (quot-rem v (pos s))) ∙ sum_product (cut s v *ℤ pos s) (rem_z v (pos s)) w
    ∙ ap (λ x. x +ℤ rem_z v (pos s) *ℤ w) (sym (product_swap (cut s v) w s))

-- the rest is below s, and 0 unless the term is lost
rest_small : (s r w : ℕ) (b : Bool) → r < s → eqb r 0 ≡ b → r * w ≤ cond (not b) w 0 * (s - 1)
rest_small s r w true h e = rw (eqb-true r 0 e) (omega arith)
rest_small s r w false h e = rw (mul_comm r w) (mul-le-mul_left w (omega arith))

-- so a term is left out by at most its loss times s - 1
part_small : (s : ℕ) (t : Term) → 0 < s → nat_abs (rem_z t.value (pos s) *ℤ t.weight) ≤ loss s t * (s - 1)
part_small s t h =
    rw (unsigned_abs-mul, abs_rest) (rest_small s (nat_abs t.value % s) (nat_abs t.weight) (eqb (nat_abs t.value % s) 0) (mod-lt _ h) refl)

-- the exact sum lies at most slack × (step - 1) from the total
pub off : (s : ℕ) (ts : List Term) → 0 < s → nat_abs (exact ts -ℤ total s ts *ℤ pos s) ≤ slack s ts * (s - 1)
off s [] h = omega (arith, ints)
off s (t ∷ ts) h =
    let apart : exact (t ∷ ts) -ℤ total s (t ∷ ts) *ℤ pos s ≡ rem_z t.value (pos s) *ℤ t.weight +ℤ (exact ts -ℤ total s ts *ℤ pos s) =
    regroup (t.value *ℤ t.weight) (cut s t.value *ℤ t.weight *ℤ pos s) (rem_z t.value (pos s) *ℤ t.weight) (exact ts) (total s ts *ℤ pos s) _ (left_out s t.value t.weight) (sum_product (cut s t.value *ℤ t.weight) (total s ts) (pos s)) in
    rw (apart, add-mul) (omega (arith, abs_sum (rem_z t.value (pos s) *ℤ t.weight) (exact ts -ℤ total s ts *ℤ pos s), part_small s t h, off s ts h))
  where
    regroup : (vw cw r e p q : ℤ) → vw ≡ cw +ℤ r → q ≡ cw +ℤ p → vw +ℤ e -ℤ q ≡ r +ℤ (e -ℤ p)
    regroup vw cw r e p q h k = omega (arith, ints)

pub tells : (s : ℕ) (ts : List Term) → 0 < s → Tells s (total s ts) (slack s ts) (exact ts)
tells s ts h = record { exactly = λ e. at_zero _ _ (omega (arith, near, ap (λ n. n * (s - 1)) e)); nearly = λ k. omega (arith, near, below (slack s ts) s h) }
  where
    near : nat_abs (exact ts -ℤ total s ts *ℤ pos s) ≤ slack s ts * (s - 1)
    near = off s ts h

    below : (n m : ℕ) → 0 < m → n * (m - 1) + n ≡ n * m
    below n m k = let e : m ≡ m - 1 + 1 = omega arith in omega (arith, mul-add n (m - 1) 1, ap (λ x. n * x) e)

    at_zero : (a b : ℤ) → nat_abs (b -ℤ a) ≡ 0 → a ≡ b
    at_zero a b e = omega (arith, ints)

-- ---- when the slack is 0
harmless : (s : ℕ) (t : Term) (b : Bool) → lost s t.value ≡ b → cond b (nat_abs t.weight) 0 ≡ 0 → T b → t.weight ≡ pos 0
harmless s t true e z l = omega (arith, ints)
harmless s t false e z l = absurd l

no_loss : (s : ℕ) (t : Term) (b : Bool) → (T b → t.weight ≡ pos 0) → cond b (nat_abs t.weight) 0 ≡ 0
no_loss s t true h = ap nat_abs (h tt)
no_loss s t false h = refl

pub none_lost : (s : ℕ) (ts : List Term) → slack s ts ≡ 0 → AllByRecursion (Harmless s) ts
none_lost s [] e = tt
none_lost s (t ∷ ts) e = (harmless s t (lost s t.value) refl (omega arith), none_lost s ts (omega arith))

pub none_slack : (s : ℕ) (ts : List Term) → AllByRecursion (Harmless s) ts → slack s ts ≡ 0
none_slack s [] h = refl
none_slack s (t ∷ ts) h = omega (arith, no_loss s t (lost s t.value) h.0, none_slack s ts h.1)
