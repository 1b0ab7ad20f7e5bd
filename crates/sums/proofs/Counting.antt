-- Lists with the same terms, each as often, have one total and one slack: a term of the one is taken out of the other.
use Rattle.std.proofs.Common.{◌≡◌, ℕ, ◌+◌, ◌<◌, Bool, true, false, cond, List, [], ◌∷◌, ℤ, ◌+ℤ◌, ◌-ℤ◌, ◌*ℤ◌, nat_abs, sym, refl, ap, ◌∙◌, arith}
use Rattle.std.proofs.lemmas.Int.{ints}
use Rattle.std.proofs.lemmas.Bool.{and_parts, eqb-true, eq-eqb}
use Rattle.sums.specs.Terms.{Term, cut, loss, total, slack, same_term, count}
use Rattle.sums.specs.Laws.{SameTerms}

-- ---- same-term tells whether terms are equal
no_distance : (a : ℤ) → nat_abs (a -ℤ a) ≡ 0
no_distance a = omega (arith, ints)

same_refl : (t : Term) → same_term t t ≡ true
same_refl t = rw (eq-eqb _ 0 (no_distance t.value), eq-eqb _ 0 (no_distance t.weight)) refl

equal : (a b : ℤ) → nat_abs (a -ℤ b) ≡ 0 → a ≡ b
equal a b e = omega (arith, ints)

same_is : (t u : Term) → same_term t u ≡ true → t ≡ u
same_is t u e =
    let parts = and_parts _ _ e in
    let value = equal t.value u.value (eqb-true _ 0 parts.0) in
    let weight = equal t.weight u.weight (eqb-true _ 0 parts.1) in
    ap (λ (v : ℤ). record { value = v; weight = t.weight }) value ∙ ap (λ (w : ℤ). record { value = u.value; weight = w }) weight

-- ---- a term taken out where it first stands
without : Term → List Term → List Term
without t [] = []
without t (u ∷ us) = cond (same_term t u) us (u ∷ without t us)

-- what is taken out, and what stays
record Out (s : ℕ) (t : Term) (us rest : List Term) : Type 0 where
  total : total s us ≡ cut s t.value *ℤ t.weight +ℤ total s rest
  slack : slack s us ≡ loss s t + slack s rest
  count : (u : Term) → count u us ≡ cond (same_term u t) 1 0 + count u rest

here : (s : ℕ) (t u : Term) (us : List Term) → t ≡ u → Out s t (u ∷ us) us
here s t u us e = record {
  total = ap (λ v. cut s v.value *ℤ v.weight +ℤ total s us) (sym e);
  slack = ap (λ v. loss s v + slack s us) (sym e);
  count = λ v. ap (λ w. cond (same_term v w) 1 0 + count v us) (sym e);
}

later : (s : ℕ) (t u : Term) (us rest : List Term) → Out s t us rest → Out s t (u ∷ us) (u ∷ rest)
later s t u us rest out = record {
  total = swap (cut s u.value *ℤ u.weight) (cut s t.value *ℤ t.weight) (total s us) (total s rest) out.total;
  slack = omega (arith, out.slack);
  count = λ v. omega (arith, out.count v);
}
  where
    swap : (a b x y : ℤ) → x ≡ b +ℤ y → a +ℤ x ≡ b +ℤ (a +ℤ y)
    swap a b x y e = omega (arith, ints)

taken_out : (s : ℕ) (t : Term) (us : List Term) → 0 < count t us → Out s t us (without t us)
unfolding without
taken_out s t [] some = absurd (omega arith)
taken_out s t (u ∷ us) some = by_first (same_term t u) refl some (taken_out s t us)
  where
    by_first : (b : Bool) → same_term t u ≡ b → 0 < cond b 1 0 + count t us → (0 < count t us → Out s t us (without t us)) → Out s t (u ∷ us) (cond b us (u ∷ without t us))
    by_first true e h deeper = here s t u us (same_is t u e)
    by_first false e h deeper = later s t u us (without t us) (deeper (omega arith))

some_of_itself : (t : Term) (ts : List Term) → 0 < count t (t ∷ ts)
some_of_itself t ts = omega (arith, ap (λ b. cond b 1 0 + count t ts) (same_refl t))

pub order_free : (s : ℕ) (ts us : List Term) → SameTerms ts us → (total s ts ≡ total s us) × (slack s ts ≡ slack s us)
order_free s [] [] same = (refl, refl)
order_free s [] (u ∷ us) same = absurd (omega (arith, same u, some_of_itself u us))
order_free s (t ∷ ts) us same =
    let out = taken_out s t us (omega (arith, same t, some_of_itself t ts)) in
    let rest = order_free s ts (without t us) (λ u. omega (arith, same u, out.count u)) in (
      ap (λ x. cut s t.value *ℤ t.weight +ℤ x) rest.0 ∙ sym out.total,
      ap (λ n. loss s t + n) rest.1 ∙ sym out.slack,
    )
