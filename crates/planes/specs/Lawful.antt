-- The plane unit keeps the laws of a unit. Nothing here has to be believed: these are proofs, which the unit names.
use Rattle.std.specs.Prelude.{◌≡◌, ℕ, zero, suc, ◌+◌, ◌*◌, ◌^◌, ◌≤◌, List, [], ◌∷◌, map, length, ℤ, ◌+ℤ◌, unsigned_abs}
use Rattle.std.proofs.Common.{subst, arith}
use Rattle.std.proofs.lemmas.List.{length-map}
use Rattle.std.proofs.lemmas.Bool.{and_parts, leb-true}
use Rattle.units.specs.Meaning.{Lawful, Bounded, reach}
use Rattle.units.specs.Lawful.{true_from_T}
use Rattle.integers.proofs.Laws.{abs_sum}
use Rattle.planes.specs.declared.Plane.{Plane}
use Rattle.planes.specs.Columns.{Eights, EachBounded, weigh}
use Rattle.planes.specs.Plane.{plane}

-- ---- how far the sums reach
-- what so many sums of at most n weigh at most
abbrev pub most : ℕ → ℕ → ℕ
most zero n = 0
most (suc k) n = n + 2 * most k n

pub weigh_most : (n : ℕ) (ss : List ℤ) → Bounded n ss → unsigned_abs (weigh ss) ≤ most (length ss) n
weigh_most n [] b = omega arith
weigh_most n (s ∷ ss) b =
    let rest = weigh_most n ss (λ c. b (suc c)) in
    let twice = abs_sum (weigh ss) (weigh ss) in
    omega (arith, b 0, rest, twice, abs_sum s (weigh ss +ℤ weigh ss))

pub weigh_bounded : (n : ℕ) (ss : List ℤ) → length ss ≡ 8 → Bounded n ss → unsigned_abs (weigh ss) ≤ 255 * n
weigh_bounded n ss eight b = let top = subst (λ k. unsigned_abs (weigh ss) ≤ most k n) eight (weigh_most n ss b) in omega (arith, top)

pub weighs_bounded : (m : ℕ) (cs : List (List ℤ)) → Eights cs → EachBounded m cs → Bounded (255 * m) (map weigh cs)
weighs_bounded m [] e b c = omega arith
weighs_bounded m (d ∷ cs) e b zero = weigh_bounded m d (e 0 (omega arith)) (b 0)
weighs_bounded m (d ∷ cs) e b (suc c) = weighs_bounded m cs (λ j k. e (suc j) (omega arith)) (λ j. b (suc j)) c

pub plane_bounded : (rows : ℕ) (cs : List (List ℤ)) → Eights cs → EachBounded (rows * 2 ^ 36) cs → Bounded (reach rows) (map weigh cs)
plane_bounded rows cs e b c = omega (arith, weighs_bounded (rows * 2 ^ 36) cs e b c)

pub plane_lawful : (u : Plane) → Lawful (plane u)
plane_lawful u =
    let counted = length-map u.sums.items weigh in
    record {
      some_column = omega (arith, counted, u.some);
      few_columns = omega (arith, counted, u.few);
      some_row = omega arith;
      few_rows = omega arith;
      within = u.short;
      taken = λ w t. leb-true (unsigned_abs w) 255 (and_parts _ _ (true_from_T _ t)).0;
      bounded = plane_bounded u.rows u.sums.items u.eights u.bounded;
    }
