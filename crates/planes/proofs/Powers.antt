-- The plane unit: sums for the powers of two, and what adding a or -a to them does to what they weigh.
use Rattle.std.specs.Prelude.{◌≡◌, ℕ, zero, suc, ◌+◌, ◌-◌, ◌*◌, ◌/◌, ◌%◌, ◌^◌, ◌<◌, ◌≤◌, Bool, true, false, cond, List, [], ◌∷◌, map, length, get_or, take, drop, set, replicate, ℤ, pos, ◌+ℤ◌, ◌*ℤ◌, neg_ℤ, ◌==◌, ◌≢◌, slice_index_or, slice_set, unsigned_abs, Option, Some, refl}
use Rattle.std.proofs.Common.{sym, ap, subst, ◌∙◌, arith, le_of_suc-le-suc, pow-suc, div-one, add-one}
use Rattle.std.specs.List.{refill}
use Rattle.std.specs.Borrow.{Bor}
use Rattle.std.specs.Iterator.{Yields}
use Rattle.std.specs.Iterator.Adapters.{rev_steps, rev_source}
use Rattle.std.specs.Slice.Iter.{iter_rest, iter_steps_back}
use Rattle.std.specs.declared.iter.Rev.{Rev}
use Rattle.std.specs.declared.slice.Iter.{Iter}
use Rattle.std.proofs.lemmas.Iterator.Adapters.{YieldsList-from_rev_slice}
use Rattle.std.proofs.lemmas.Iterator.Consumers.{YieldsList-turn}
use Rattle.std.proofs.lemmas.Int.{ints}
use Rattle.std.proofs.lemmas.Nat.{shr-shr}
use Rattle.std.proofs.lemmas.List.{at_drop_more, length-reverse, get_or-reverse, get_or_default, length-replicate}
use Rattle.std.proofs.lemmas.Bool.{cond_both, and_parts, leb-true, eqb-true, eqb-false}
use Rattle.units.specs.Meaning.{Bounded, plus_each, grown}
use Rattle.planes.specs.Columns.{Eights, EachBounded, SignsWeigh, takes_odd, code, signed, signs, weigh, spread}
use Rattle.units.specs.Lawful.{true_from_T}
use Rattle.planes.specs.Lawful.{most, weigh_most}
use Rattle.integers.proofs.Laws.{product_sum}
use Rattle.units.proofs.Reach.{length_plus, plus_bounded, plus_more, get_or_plus_past, zeros_bounded, written}

-- ---- what the sums weigh
pub weigh_plus : (xs ys : List ℤ) → length xs ≡ length ys → weigh (plus_each xs ys) ≡ weigh xs +ℤ weigh ys
weigh_plus [] [] e = refl
weigh_plus [] (y ∷ ys) e = absurd (omega arith)
weigh_plus (x ∷ xs) [] e = absurd (omega arith)
weigh_plus (x ∷ xs) (y ∷ ys) e = let rest = weigh_plus xs ys (omega arith) in omega (arith, ints, rest)

by_bit : (b : Bool) (a : ℤ) → cond b a (neg_ℤ a) ≡ a *ℤ cond b (pos 1) (neg_ℤ (pos 1))
by_bit true a = omega (arith, ints)
by_bit false a = omega (arith, ints)

weigh_scaled : (k : ℕ) (a : ℤ) (n : ℕ) → weigh (signs k a n) ≡ a *ℤ weigh (signs k (pos 1) n)
weigh_scaled zero a n = omega (arith, ints)
weigh_scaled (suc k) a n =
    let x = weigh (signs k (pos 1) (n / 2)) in
    let first = by_bit (n % 2 == 1) a in
    let rest = weigh_scaled k a (n / 2) in
    let both = product_sum a (signed (pos 1) n) (x +ℤ x) in
    let twice = product_sum a x x in
    ap (λ s. s +ℤ (weigh (signs k a (n / 2)) +ℤ weigh (signs k a (n / 2)))) first
    ∙ ap (λ y. a *ℤ signed (pos 1) n +ℤ (y +ℤ y)) rest
    ∙ ap (λ y. a *ℤ signed (pos 1) n +ℤ y) (sym twice)
    ∙ sym both

zero_bit : (n : ℕ) → (n % 2 ≢ 1) → 0 ≡ n % 2 + n % 2
zero_bit n no' = omega arith

bit_is : (n : ℕ) → signed (pos 1) n +ℤ pos 1 ≡ pos (n % 2 + n % 2)
bit_is n =
    cond_both (n % 2 == 1) (pos 1) (neg_ℤ (pos 1)) (λ s. s +ℤ pos 1 ≡ pos (n % 2 + n % 2))
    (λ e. ap pos (omega (arith, eqb-true (n % 2) 1 e)))
    (λ e. ap pos (zero_bit n (eqb-false (n % 2) 1 e)))

-- with 1, so many bits of n weigh 2n + 1 - 2^k
weigh_ones : (k n : ℕ) → n < 2 ^ k → weigh (signs k (pos 1) n) +ℤ pos (2 ^ k) ≡ pos (n + n + 1)
weigh_ones zero n h = ap pos (omega arith)
weigh_ones (suc k) n h =
    let power = pow-suc 2 k in
    let rest = weigh_ones k (n / 2) (omega (arith, power)) in
    omega (arith, ints, power, rest, bit_is n)

-- the eight signs of a weight weigh a × that weight
weigh_signs : (a w : ℤ) → takes_odd w ≡ true → weigh (signs 8 a (code w)) ≡ a *ℤ w
weigh_signs a w odd =
    let parts = and_parts _ _ odd in
    let light = leb-true (unsigned_abs w) 255 parts.0 in
    let bit = eqb-true (unsigned_abs w % 2) 1 parts.1 in
    let ones = weigh_ones 8 (code w) (omega (arith, ints)) in
    let same : weigh (signs 8 (pos 1) (code w)) ≡ w = omega (arith, ints, ones) in
    weigh_scaled 8 a (code w) ∙ ap (λ z. a *ℤ z) same

pub signs_weigh : SignsWeigh
unfolding SignsWeigh
signs_weigh a w odd = weigh_signs a w (true_from_T (takes_odd w) odd)

unsigned_abs_signed : (b : Bool) (a : ℤ) → unsigned_abs (cond b a (neg_ℤ a)) ≡ unsigned_abs a
unsigned_abs_signed true a = refl
unsigned_abs_signed false a = omega (arith, ints)

signs_bounded : (k : ℕ) (a : ℤ) (n m : ℕ) → unsigned_abs a ≤ m → Bounded m (signs k a n)
signs_bounded zero a n m small c = omega arith
signs_bounded (suc k) a n m small zero = omega (arith, unsigned_abs_signed (n % 2 == 1) a)
signs_bounded (suc k) a n m small (suc c) = signs_bounded k a (n / 2) m small c

length_signs : (k : ℕ) (a : ℤ) (n : ℕ) → length (signs k a n) ≡ k
length_signs zero a n = refl
length_signs (suc k) a n = ap suc (length_signs k a (n / 2))

-- ---- the columns
pub length_spread : (cs : List (List ℤ)) (a : ℤ) (ws : List ℤ) → length (spread cs a ws) ≡ length cs
length_spread [] a ws = refl
length_spread (c ∷ cs) a [] = refl
length_spread (c ∷ cs) a (w ∷ ws) = ap suc (length_spread cs a ws)

-- what the vector has that is spread through its slice
pub spread_back : (cs after : List (List ℤ)) (a : ℤ) (ws : List ℤ) → after ≡ spread cs a ws → refill (length cs) cs after ≡ spread cs a ws
spread_back cs after a ws e = written cs after (ap length e ∙ length_spread cs a ws) ∙ e

pub spread_eights : (cs : List (List ℤ)) (a : ℤ) (ws : List ℤ) → Eights cs → Eights (spread cs a ws)
spread_eights [] a ws e c h = e c h
spread_eights (c ∷ cs) a [] e i h = e i h
spread_eights (c ∷ cs) a (w ∷ ws) e zero h = length_plus c (signs 8 a (code w)) ∙ e 0 (omega arith)
spread_eights (c ∷ cs) a (w ∷ ws) e (suc i) h = spread_eights cs a ws (λ j k. e (suc j) (omega arith)) i (le_of_suc-le-suc h)

pub spread_bounded : (n : ℕ) (cs : List (List ℤ)) (a : ℤ) (ws : List ℤ) → unsigned_abs a ≤ 2 ^ 36 → EachBounded (n * 2 ^ 36) cs → EachBounded ((n + 1) * 2 ^ 36) (spread cs a ws)
spread_bounded n [] a ws small b c j = omega arith
spread_bounded n (c ∷ cs) a [] small b i j = omega (arith, b i j)
spread_bounded n (c ∷ cs) a (w ∷ ws) small b zero j =
    omega (arith, plus_bounded (n * 2 ^ 36) (2 ^ 36) c (signs 8 a (code w)) (b 0) (signs_bounded 8 a (code w) (2 ^ 36) small) j)
spread_bounded n (c ∷ cs) a (w ∷ ws) small b (suc i) j = spread_bounded n cs a ws small (λ k. b (suc k)) i j

-- what the totals become
pub spread_weighs : (cs : List (List ℤ)) (a : ℤ) (ws : List ℤ) → Eights cs → ((c : ℕ) → c < length ws → takes_odd (slice_index_or ws c (pos 0)) ≡ true) → map weigh (spread cs a ws) ≡ grown (map weigh cs) a ws
spread_weighs [] a ws e odd = refl
spread_weighs (c ∷ cs) a [] e odd = refl
spread_weighs (c ∷ cs) a (w ∷ ws) e odd =
    let column = weigh_plus c (signs 8 a (code w)) (e 0 (omega arith) ∙ sym (length_signs 8 a (code w))) ∙ ap (λ z. weigh c +ℤ z) (weigh_signs a w (odd 0 (omega arith))) in
    ap (λ t. t ∷ map weigh (spread cs a ws)) column
    ∙ ap (λ ts. (weigh c +ℤ a *ℤ w) ∷ ts) (spread_weighs cs a ws (λ j k. e (suc j) (omega arith)) (λ j k. odd (suc j) (omega arith)))

-- ---- loops
weigh_drop : (n i : ℕ) (ss : List ℤ) → Bounded n ss → unsigned_abs (weigh (drop i ss)) ≤ most (length ss) n
weigh_drop n zero ss b = weigh_most n ss b
weigh_drop n (suc i) [] b = omega arith
weigh_drop n (suc i) (s ∷ ss) b = omega (arith, weigh_drop n i ss (λ c. b (suc c)))

pub drop_bounded : (n i : ℕ) (ss : List ℤ) → length ss ≡ 8 → Bounded n ss → unsigned_abs (weigh (drop i ss)) ≤ 255 * n
drop_bounded n i ss eight b = let top = subst (λ k. unsigned_abs (weigh (drop i ss)) ≤ most k n) eight (weigh_drop n i ss b) in omega (arith, top)

-- one power further down
pub weigh_down : (ss : List ℤ) (p : ℕ) → 0 < p → p ≤ length ss → weigh (drop (p - 1) ss) ≡ slice_index_or ss (p - 1) (pos 0) +ℤ (weigh (drop p ss) +ℤ weigh (drop p ss))
weigh_down ss p low high =
    let next : p - 1 + 1 ≡ p = omega arith in
    at_drop_more weigh ss (p - 1) (pos 0) (omega arith) ∙ ap (λ i. slice_index_or ss (p - 1) (pos 0) +ℤ (weigh (drop i ss) +ℤ weigh (drop i ss))) next

-- a loop's turn from the last sum back: k of the eight weigh the total, and x is the next
pub record Turned (ss : List ℤ) (k : ℕ) (total x : ℤ) : Type 0 where
  pub so_far : unsigned_abs total ≤ 255 * (64 * 2 ^ 36)
  pub more : unsigned_abs x ≤ 64 * 2 ^ 36
  pub step : weigh (drop (8 - (k + 1)) ss) ≡ x +ℤ (total +ℤ total)

pub turned : (s : Rev (Iter ℤ)) (ss : List ℤ) → length ss ≡ 8 → Bounded (64 * 2 ^ 36) ss → iter_rest (rev_source s) ≡ ss → (xs : List (Bor ℤ)) (t : Rev (Iter ℤ)) → Yields (rev_steps iter_steps_back) s xs t → (r : Option (Bor ℤ)) (u : Rev (Iter ℤ)) (x : Bor ℤ) → r ≡ Some x → rev_steps iter_steps_back t r u → (total : ℤ) → total ≡ weigh (drop (8 - length xs) ss) → Turned ss (length xs) total x.now
turned s ss eight bounded all xs t so_far r u x is step total e =
    let k = length xs in
    let turn = YieldsList-turn (YieldsList-from_rev_slice ss all) xs t so_far r u x is step in
    let inside : k < length ss = omega (arith, length-reverse ss, turn.0) in
    let place : length ss - 1 - k ≡ 8 - k - 1 = omega arith in
    let next : 8 - (k + 1) ≡ 8 - k - 1 = omega arith in
    let item : x.now ≡ slice_index_or ss (8 - k - 1) (pos 0) =
    turn.1 ∙ get_or-reverse ss k x.now inside ∙ get_or_default ss (length ss - 1 - k) x.now (pos 0) (omega arith) ∙ ap (λ i. get_or ss i (pos 0)) place in
    record {
      so_far = rw e (drop_bounded _ (8 - k) ss eight bounded);
      more = rw item (bounded (8 - k - 1));
      step = ap (λ i. weigh (drop i ss)) next ∙ weigh_down ss (8 - k) (omega arith) (omega arith) ∙ cc (item, e);
    }

pub get_or_signs : (k : ℕ) (a : ℤ) (n j : ℕ) → j < k → slice_index_or (signs k a n) j (pos 0) ≡ signed a (n / 2 ^ j)
get_or_signs zero a n j h = absurd (omega arith)
get_or_signs (suc k) a n zero h = ap (signed a) (sym (div-one n))
get_or_signs (suc k) a n (suc j) h =
    get_or_signs k a (n / 2) j (le_of_suc-le-suc h) ∙ ap (signed a) (shr-shr n 1 j ∙ ap (λ m. n / 2 ^ m) (omega arith))

-- a loop's step: one power more
pub record Signed (ss now' : List ℤ) (a : ℤ) (n i : ℕ) (x : ℤ) : Type 0 where
  pub old : unsigned_abs (slice_index_or now' i (pos 0)) ≤ 64 * 2 ^ 36
  pub more : unsigned_abs x ≤ 2 ^ 36
  pub step : set now' i (slice_index_or now' i (pos 0) +ℤ x) ≡ plus_each ss (take (i + 1) (signs 8 a n))

pub signed_more : (ss now' : List ℤ) (a : ℤ) (n i : ℕ) (x : ℤ) → length ss ≡ 8 → i < 8 → Bounded (64 * 2 ^ 36) ss → unsigned_abs a < 2 ^ 36 → now' ≡ plus_each ss (take i (signs 8 a n)) → x ≡ signed a (n / 2 ^ i) → Signed ss now' a n i x
signed_more ss now' a n i x eight here bounded small so_far read =
    let there : i < length (signs 8 a n) = omega (arith, length_signs 8 a n) in
    let value = read ∙ sym (get_or_signs 8 a n i here) in
    record {
      old = rw (ap (λ ts. get_or ts i (pos 0)) so_far ∙ get_or_plus_past ss (signs 8 a n) i) (bounded i);
      more = rw value (signs_bounded 8 a n (2 ^ 36) (omega arith) i);
      step = (cc (value, so_far)) ∙ sym (plus_more ss (signs 8 a n) i (omega (arith, eight)) there);
    }

pub spread_none : (cs : List (List ℤ)) (a : ℤ) → spread cs a [] ≡ cs
spread_none [] a = refl
spread_none (c ∷ cs) a = refl

-- where the weights end, the columns stand
pub spread_past : (cs : List (List ℤ)) (a : ℤ) (ws : List ℤ) (i : ℕ) → slice_index_or (spread cs a (take i ws)) i [] ≡ slice_index_or cs i []
spread_past [] a ws i = refl
spread_past (c ∷ cs) a ws zero = refl
spread_past (c ∷ cs) a [] (suc i) = refl
spread_past (c ∷ cs) a (w ∷ ws) (suc i) = spread_past cs a ws i

spread_suc : (cs : List (List ℤ)) (a : ℤ) (ws : List ℤ) (i : ℕ) → i < length cs → i < length ws → spread cs a (take (suc i) ws) ≡ slice_set (spread cs a (take i ws)) i (plus_each (slice_index_or cs i []) (signs 8 a (code (slice_index_or ws i (pos 0)))))
spread_suc [] a ws i h k = absurd (omega arith)
spread_suc (c ∷ cs) a [] i h k = absurd (omega arith)
spread_suc (c ∷ cs) a (w ∷ ws) zero h k = ap (λ ds. plus_each c (signs 8 a (code w)) ∷ ds) (spread_none cs a)
spread_suc (c ∷ cs) a (w ∷ ws) (suc i) h k = ap (λ ds. plus_each c (signs 8 a (code w)) ∷ ds) (spread_suc cs a ws i (le_of_suc-le-suc h) (le_of_suc-le-suc k))

-- a loop's step: one column more
pub spread_more : (cs : List (List ℤ)) (a : ℤ) (ws : List ℤ) (i : ℕ) → i < length cs → i < length ws → spread cs a (take (i + 1) ws) ≡ slice_set (spread cs a (take i ws)) i (plus_each (slice_index_or cs i []) (signs 8 a (code (slice_index_or ws i (pos 0)))))
spread_more cs a ws i h k = rw add-one (spread_suc cs a ws i h k)

-- ---- a new unit, and one that is cleared
-- n columns of sums that are all 0
pub record Wiped (n : ℕ) (cs : List (List ℤ)) : Type 0 where
  pub counted : length cs ≡ n
  pub eights : Eights cs
  pub bounded : EachBounded 0 cs
  pub weighs : map weigh cs ≡ replicate n (pos 0)

zero_eights : (n : ℕ) → Eights (replicate n (replicate 8 (pos 0)))
zero_eights zero c h = absurd (omega arith)
zero_eights (suc n) zero h = refl
zero_eights (suc n) (suc c) h = zero_eights n c (le_of_suc-le-suc h)

zero_bounded : (n : ℕ) → EachBounded 0 (replicate n (replicate 8 (pos 0)))
zero_bounded zero c j = omega arith
zero_bounded (suc n) zero j = zeros_bounded 0 8 j
zero_bounded (suc n) (suc c) j = zero_bounded n c j

weigh_zeros : (n : ℕ) → map weigh (replicate n (replicate 8 (pos 0))) ≡ replicate n (pos 0)
weigh_zeros zero = refl
weigh_zeros (suc n) = ap (λ ts. pos 0 ∷ ts) (weigh_zeros n)

pub wiped : (n : ℕ) (cs : List (List ℤ)) → cs ≡ replicate n (replicate 8 (pos 0)) → Wiped n cs
wiped n cs e = record {
  counted = ap length e ∙ length-replicate n (replicate 8 (pos 0));
  eights = subst Eights (sym e) (zero_eights n);
  bounded = subst (EachBounded 0) (sym e) (zero_bounded n);
  weighs = ap (map weigh) e ∙ weigh_zeros n;
}

-- what the vector has whose columns are all filled with 0 through its slice
pub wiped_back : (cs lent after : List (List ℤ)) → lent ≡ cs → after ≡ replicate (length lent) (replicate 8 (pos 0)) → refill (length cs) cs after ≡ replicate (length cs) (replicate 8 (pos 0))
wiped_back cs lent after e f =
    let filled = f ∙ ap (λ ds. replicate (length ds) (replicate 8 (pos 0))) e in
    written cs after (ap length filled ∙ length-replicate (length cs) (replicate 8 (pos 0))) ∙ filled
