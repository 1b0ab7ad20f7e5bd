-- Lists of sums, one for each column, and how far they reach.
use Rattle.std.specs.Prelude.{◌≡◌, ℕ, zero, suc, ◌+◌, ◌*◌, ◌^◌, ◌<◌, ◌≤◌, List, [], ◌∷◌, map, length, take, replicate, ℤ, pos, ◌+ℤ◌, ◌*ℤ◌, FitsSigned, slice_index_or, slice_set, unsigned_abs, refl}
use Rattle.std.proofs.Common.{sym, ap, ◌∙◌, arith, le_of_suc-le-suc, add-one, ⊎_elim}
use Rattle.std.proofs.Math.IntN.{+ℤ_idr, *ℤ-zero}
use Rattle.std.specs.Int.{w64}
use Rattle.std.proofs.lemmas.Int.{ints, unsigned_abs-mul}
use Rattle.std.proofs.lemmas.Nat.{mul-le}
use Rattle.std.proofs.lemmas.Bool.{cases_lt}
use Rattle.std.specs.List.{refill}
use Rattle.std.proofs.lemmas.List.{get_or_past, length-map, take-map, take_at}
use Rattle.integers.proofs.Laws.{abs_sum}
use Rattle.units.specs.Meaning.{Bounded, reach, plus_each, grown}

-- ---- one number
-- what one row adds
pub row_reach : (a w : ℤ) → unsigned_abs a < 2 ^ 36 → unsigned_abs w ≤ 255 → unsigned_abs (a *ℤ w) ≤ 255 * 2 ^ 36
row_reach a w small weight = omega (arith, unsigned_abs-mul a w, mul-le (unsigned_abs a) (unsigned_abs w) (2 ^ 36) 255 (omega arith) weight)

pub product_fits : (a w : ℤ) → unsigned_abs a < 2 ^ 36 → unsigned_abs w ≤ 255 → FitsSigned w64 (a *ℤ w)
product_fits a w small weight = let r = row_reach a w small weight in omega (arith, ints)

pub sum_fits : (s t : ℤ) → unsigned_abs s ≤ reach 65536 → unsigned_abs t ≤ reach 65536 → FitsSigned w64 (s +ℤ t)
sum_fits s t low high = omega (arith, ints)

-- ---- a list of them
pub length_plus : (xs ys : List ℤ) → length (plus_each xs ys) ≡ length xs
length_plus [] ys = refl
length_plus (x ∷ xs) [] = refl
length_plus (x ∷ xs) (y ∷ ys) = ap suc (length_plus xs ys)

pub plus_nil : (xs : List ℤ) → plus_each xs [] ≡ xs
plus_nil [] = refl
plus_nil (x ∷ xs) = refl

pub get_or_plus : (xs ys : List ℤ) (c : ℕ) → c < length xs → slice_index_or (plus_each xs ys) c (pos 0) ≡ slice_index_or xs c (pos 0) +ℤ slice_index_or ys c (pos 0)
get_or_plus [] ys c h = absurd (omega arith)
get_or_plus (x ∷ xs) [] c h = sym (+ℤ_idr _)
get_or_plus (x ∷ xs) (y ∷ ys) zero h = refl
get_or_plus (x ∷ xs) (y ∷ ys) (suc c) h = get_or_plus xs ys c (le_of_suc-le-suc h)

plus_suc : (xs ys : List ℤ) (i : ℕ) → i < length xs → i < length ys → plus_each xs (take (suc i) ys) ≡ slice_set (plus_each xs (take i ys)) i (slice_index_or (plus_each xs (take i ys)) i (pos 0) +ℤ slice_index_or ys i (pos 0))
plus_suc [] ys i h k = absurd (omega arith)
plus_suc (x ∷ xs) [] i h k = absurd (omega arith)
plus_suc (x ∷ xs) (y ∷ ys) zero h k = ap (λ zs. (x +ℤ y) ∷ zs) (plus_nil xs)
plus_suc (x ∷ xs) (y ∷ ys) (suc i) h k = ap (λ zs. (x +ℤ y) ∷ zs) (plus_suc xs ys i (le_of_suc-le-suc h) (le_of_suc-le-suc k))

-- a loop's step: one number more of the second list
pub plus_more : (xs ys : List ℤ) (i : ℕ) → i < length xs → i < length ys → plus_each xs (take (i + 1) ys) ≡ slice_set (plus_each xs (take i ys)) i (slice_index_or (plus_each xs (take i ys)) i (pos 0) +ℤ slice_index_or ys i (pos 0))
plus_more xs ys i h k = rw add-one (plus_suc xs ys i h k)

-- where the second list ends, the first stands
pub get_or_plus_past : (xs ys : List ℤ) (i : ℕ) → slice_index_or (plus_each xs (take i ys)) i (pos 0) ≡ slice_index_or xs i (pos 0)
get_or_plus_past [] ys i = refl
get_or_plus_past (x ∷ xs) [] zero = refl
get_or_plus_past (x ∷ xs) [] (suc i) = refl
get_or_plus_past (x ∷ xs) (y ∷ ys) zero = refl
get_or_plus_past (x ∷ xs) (y ∷ ys) (suc i) = get_or_plus_past xs ys i

pub get_or_scaled : (a : ℤ) (ws : List ℤ) (c : ℕ) → slice_index_or (map (λ w. a *ℤ w) ws) c (pos 0) ≡ a *ℤ slice_index_or ws c (pos 0)
get_or_scaled a [] c = sym (*ℤ-zero a)
get_or_scaled a (w ∷ ws) zero = refl
get_or_scaled a (w ∷ ws) (suc c) = get_or_scaled a ws c

pub grown_none : (ts : List ℤ) (a : ℤ) → grown ts a [] ≡ ts
grown_none ts a = plus_nil ts

-- a loop's step: one weight more
pub grown_more : (ts : List ℤ) (a : ℤ) (ws : List ℤ) (i : ℕ) → i < length ts → i < length ws → grown ts a (take (i + 1) ws) ≡ slice_set (grown ts a (take i ws)) i (slice_index_or (grown ts a (take i ws)) i (pos 0) +ℤ a *ℤ slice_index_or ws i (pos 0))
grown_more ts a ws i h k =
    let scaled = map (λ w. a *ℤ w) ws in
    let k' : i < length scaled = simp length-map k in
    rw (← take-map (λ w. a *ℤ w) (i + 1) ws, ← take-map (λ w. a *ℤ w) i ws, ← get_or_scaled a ws i) (plus_more ts scaled i h k')

pub get_or_grown_past : (ts : List ℤ) (a : ℤ) (ws : List ℤ) (i : ℕ) → slice_index_or (grown ts a (take i ws)) i (pos 0) ≡ slice_index_or ts i (pos 0)
get_or_grown_past ts a ws i = rw (← take-map (λ w. a *ℤ w) i ws) (get_or_plus_past ts (map (λ w. a *ℤ w) ws) i)

-- ---- how far lists reach
pub plus_bounded : (m n : ℕ) (xs ys : List ℤ) → Bounded m xs → Bounded n ys → Bounded (m + n) (plus_each xs ys)
plus_bounded m n xs ys low high c =
    ⊎_elim
    (λ h. rw (get_or_plus xs ys c h) (omega (arith, abs_sum (slice_index_or xs c (pos 0)) (slice_index_or ys c (pos 0)), low c, high c)))
    (λ h. rw (get_or_past (plus_each xs ys) c (pos 0) (omega (arith, length_plus xs ys))) (omega arith))
    (cases_lt c (length xs))

pub grown_bounded : (rows : ℕ) (ts : List ℤ) (a : ℤ) (ws : List ℤ) → Bounded (reach rows) ts → unsigned_abs a < 2 ^ 36 → Bounded 255 ws → Bounded (reach (rows + 1)) (grown ts a ws)
grown_bounded rows ts a ws low small light c =
    let step = plus_bounded (reach rows) (255 * 2 ^ 36) ts (map (λ w. a *ℤ w) ws) low (λ d. rw (get_or_scaled a ws d) (row_reach a (slice_index_or ws d (pos 0)) small (light d))) c in
    omega (arith, step)

pub zeros_bounded : (k n : ℕ) → Bounded k (replicate n (pos 0))
zeros_bounded k zero c = omega arith
zeros_bounded k (suc n) zero = omega arith
zeros_bounded k (suc n) (suc c) = zeros_bounded k n c

-- a vector that is written through its slice has what was written, where that is as long
pub written : {X : Type 0} (xs ws : List X) → length ws ≡ length xs → refill (length xs) xs ws ≡ ws
written xs ws same = take_at ws _ (length xs) same

pub grown_back : (ts after : List ℤ) (a : ℤ) (ws : List ℤ) → after ≡ grown ts a ws → refill (length ts) ts after ≡ grown ts a ws
grown_back ts after a ws e = written ts after (ap length e ∙ length_plus ts _) ∙ e

-- a front of a list reaches no further than the whole
pub take_bounded : (n k : ℕ) (xs : List ℤ) → Bounded n xs → Bounded n (take k xs)
take_bounded n zero xs b c = omega arith
take_bounded n (suc k) [] b c = b c
take_bounded n (suc k) (x ∷ xs) b zero = b zero
take_bounded n (suc k) (x ∷ xs) b (suc c) = take_bounded n k xs (λ d. b (suc d)) c
