-- What the bits of a place count for, summed from the highest plane down.
use Rattle.std.proofs.Common.{◌≡◌, ℕ, zero, suc, ◌+◌, ◌-◌, ◌^◌, ◌<◌, ◌≤◌, eqb, List, [], ◌∷◌, ℤ, pos, ◌+ℤ◌, ◌*ℤ◌, neg_ℤ, nat_abs, Option, MatchOption, refl, ap, subst, sym, ◌∙◌, arith, pow_mono}
use native.Mathlib.Nat.{pow-succ'}
use Rattle.std.proofs.lemmas.Int.{ints}
use Rattle.std.specs.declared.iter.Rev.{Rev}
use Rattle.std.specs.declared.ops.Range.{Range}
use Rattle.std.specs.Iterator.{Yields}
use Rattle.std.specs.List.{FoldsTo}
use Rattle.std.proofs.lemmas.Bool.{cond_both}
use Rattle.sheets.specs.Packing.{bit_at, plane_term, plane_sum}

-- a bit counts for twice as much in the next plane
doubled : (b j : ℕ) → plane_term b j +ℤ plane_term b j ≡ plane_term b (suc j)
doubled b j = cond_both (eqb b 0) (neg_ℤ (pos (2 ^ j))) (pos (2 ^ j)) (λ z. z +ℤ z ≡ plane_term b (suc j)) (λ e. rw e (omega (arith, ints, pow-succ' 2 j))) (λ e. rw e (omega (arith, ints, pow-succ' 2 j)))

pub term_small : (b : ℕ) → nat_abs (plane_term b 0) ≤ 1
term_small b = cond_both (eqb b 0) (neg_ℤ (pos 1)) (pos 1) (λ z. nat_abs z ≤ 1) (λ _. omega (arith, ints)) (λ _. omega (arith, ints))

-- the steps of a range of numbers from its end down
abbrev down : Rev (Range ℕ) → Option ℕ → Rev (Range ℕ) → Type 0
down s o t = (t.iter.start ≡ s.iter.start) × MatchOption o ((s.iter.end - s.iter.start ≡ 0) × (t.iter.end ≡ s.iter.end)) (λ x. (0 < s.iter.end - s.iter.start) × (x ≡ t.iter.end) × (s.iter.end ≡ t.iter.end + 1))

-- what is on top, where all that is above is doubled
twice : (low high top more rest : ℤ) → high ≡ low +ℤ top → top +ℤ top ≡ more → pos 2 *ℤ high +ℤ rest ≡ (pos 2 *ℤ low +ℤ rest) +ℤ more
twice low high top more rest h d = omega (arith, ints)

module _ (bytes : List ℕ) (stride k : ℕ) where
  -- what n planes count for, from plane j on, where plane j counts for 1 or -1
  abbrev pub above : ℕ → ℕ → ℤ
  above j zero = pos 0
  above j (suc n) = pos 2 *ℤ above (suc j) n +ℤ plane_term (bit_at bytes stride k j) 0

  -- less than 2 ^ n either way
  pub above_small : (j n : ℕ) → nat_abs (above j n) < 2 ^ n
  above_small j zero = omega arith
  above_small j (suc n) =
      let rest = above_small (suc j) n in
      let last = term_small (bit_at bytes stride k j) in
      omega (arith, ints, pow-succ' 2 n)

  -- one plane more, on top
  topped : (j n i : ℕ) → i ≡ j + n → above j (suc n) ≡ above j n +ℤ plane_term (bit_at bytes stride k i) n
  topped j zero i on =
      let here : i ≡ j = omega (arith, on) in
      let same = ap (λ (l : ℕ). plane_term (bit_at bytes stride k l) 0) here in
      omega (arith, ints)
  topped j (suc n) i on =
      twice (above (suc j) n) (above (suc j) (suc n)) (plane_term (bit_at bytes stride k i) n) (plane_term (bit_at bytes stride k i) (suc n)) (plane_term (bit_at bytes stride k j) 0)
      (topped (suc j) n i (omega (arith, on))) (doubled (bit_at bytes stride k i) n)

  pub all_above : (n : ℕ) → above 0 n ≡ plane_sum bytes stride k n
  all_above zero = refl
  all_above (suc n) = topped 0 n n (omega arith) ∙ ap (λ z. z +ℤ plane_term (bit_at bytes stride k n) n) (all_above n)

  -- one plane more, below
  below : (planes j i : ℕ) → i ≡ j + 1 → i ≤ planes → above j (planes - j) ≡ pos 2 *ℤ above i (planes - i) +ℤ plane_term (bit_at bytes stride k j) 0
  below planes j i on few =
      let count : planes - j ≡ suc (planes - i) = omega (arith, on) in
      let next : suc j ≡ i = omega (arith, on) in
      ap (above j) count ∙ ap (λ (l : ℕ). pos 2 *ℤ above l (planes - i) +ℤ plane_term (bit_at bytes stride k j) 0) next

  module _ (planes : ℕ) where
    -- there is room for one plane more
    pub before_last : (j : ℕ) (a : ℤ) → planes ≤ 8 → 0 < j → a ≡ above j (planes - j) → nat_abs a < 128
    before_last j a few some is =
        let left : planes - j ≤ 7 = omega (arith, some, few) in
        let small = above_small j (planes - j) in
        rw is (omega (arith, small, pow_mono left))

    module _ {F : Type 0} (turns : F × ℤ → ℕ → F × ℤ → Type 0) (f : F) where
      -- what a fold down from the highest plane has come to at each turn
      pub walked : (xs : List ℕ) (s t : Rev (Range ℕ)) (a : ℤ) (q : F × ℤ) → Yields down s xs t → FoldsTo turns (f, a) xs q
          → planes ≤ 8 → s.iter.end ≤ planes → a ≡ above s.iter.end (planes - s.iter.end)
          → ((b : ℤ) → nat_abs b < 128 → (x : ℕ) (r : F × ℤ) → turns (f, b) x r → (r.0 ≡ f) × (r.1 ≡ pos 2 *ℤ b +ℤ plane_term (bit_at bytes stride k x) 0))
          → (q.0 ≡ f) × (q.1 ≡ above t.iter.end (planes - t.iter.end)) × (t.iter.end ≤ planes) × (t.iter.start ≡ s.iter.start)
      walked [] s t a q y w eight few is turn =
          (sym (ap (λ v. v.0) w), sym (ap (λ v. v.1) w) ∙ is ∙ ap (λ (u : Rev (Range ℕ)). above u.iter.end (planes - u.iter.end)) y, subst (λ (u : Rev (Range ℕ)). u.iter.end ≤ planes) y few, sym (ap (λ (u : Rev (Range ℕ)). u.iter.start) y))
      walked (x ∷ xs) s t a q y w eight few is turn =
          let one : s.iter.end ≡ y.0.iter.end + 1 = y.1.1.2 in
          let here = turn a (before_last s.iter.end a eight (omega (arith, one)) is) x w.0 w.1 in
          let next = here.1 ∙ ap (λ z. pos 2 *ℤ z +ℤ plane_term (bit_at bytes stride k x) 0) is
          ∙ ap (λ (l : ℕ). pos 2 *ℤ above s.iter.end (planes - s.iter.end) +ℤ plane_term (bit_at bytes stride k l) 0) y.1.1.1 ∙ sym (below planes y.0.iter.end s.iter.end one few) in
          let rest = walked xs y.0 t w.0.1 q y.2 (subst (λ (g : F). FoldsTo turns (g, w.0.1) xs q) here.0 w.2) eight (omega (arith, one, few)) next turn in
          (rest.0, rest.1, rest.2, rest.3 ∙ y.1.0)
