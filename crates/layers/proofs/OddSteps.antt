-- The odd layer: halves, what handing down makes of what the layer means, and why it never shows a bound.
use Rattle.std.specs.Prelude.{◌≡◌, ℕ, zero, suc, ◌+◌, ◌*◌, ◌^◌, ◌<◌, ◌≤◌, min, max, List, [], ◌∷◌, map, length, replicate, ℤ, pos, negsuc, ◌+ℤ◌, ◌-ℤ◌, ◌*ℤ◌, ◌≤ℤ◌, Ok, FitsSigned, slice_index_or, unsigned_abs, refl}
use Rattle.std.proofs.Common.{sym, ap, ◌∙◌, arith, to_z, of_z}
use Rattle.std.specs.Int.Signed.{mag_shr, shr_z}
use Rattle.std.specs.Int.{w64}
use Rattle.std.proofs.lemmas.Int.{ints, to_z-of_z}
use Rattle.std.proofs.lemmas.List.{length-map, get_or-map}
use Rattle.units.specs.Meaning.{Meaning, Lawful, Bounded, columns_of, reach, grown, add_check, added, after_add, cleared, total_at}
use Rattle.units.proofs.Checks.{Accepted, when_accepted, added_lawful, cleared_lawful, total_there, unless_both, unless_map}
use Rattle.integers.proofs.Laws.{abs_sum, product_sum}
use Rattle.units.proofs.Reach.{zeros_bounded}
use Rattle.layers.specs.Layer.{held, unit_after}
use Rattle.layers.specs.Halving.{odd_of, half}
use Rattle.layers.specs.Odd.{OddState, odd_made, odd_states, odd, fresh_odd, odd_handed_down, odd_add, odd_clear, odd_after, OddUnclamped, OddSingle}
use Rattle.layers.proofs.Events.{after_keeps, as_single}
use Rattle.layers.proofs.Shown.{map_held, shown_same}

-- ---- numbers
-- a × (2w + 1) is twice a × w, and a
odd_product : (a w : ℤ) → a *ℤ odd_of w ≡ a *ℤ w +ℤ a *ℤ w +ℤ a
odd_product a w =
    product_sum a (w +ℤ w) (pos 1) ∙ ap (λ p. p +ℤ a *ℤ pos 1) (product_sum a w w) ∙ (omega (arith, ints))

half_within : (z : ℤ) → ((half z +ℤ half z) ≤ℤ z) × (z ≤ℤ (half z +ℤ half z +ℤ pos 1))
half_within (pos n) = (omega (arith, ints), omega (arith, ints))
half_within (negsuc n) = (omega (arith, ints), omega (arith, ints))

-- twice p more is p more in the half
half_more : (z p : ℤ) → half (z +ℤ (p +ℤ p)) ≡ half z +ℤ p
half_more z p = let old = half_within z in let new = half_within (z +ℤ (p +ℤ p)) in omega (arith, ints)

half_reach : (t sum : ℤ) (m n : ℕ) → unsigned_abs t ≤ n * (255 * 2 ^ 36) → unsigned_abs sum ≤ m * 2 ^ 36 → unsigned_abs (half (t -ℤ sum)) ≤ max m n * (255 * 2 ^ 36)
half_reach t sum m n low high = let within = half_within (t -ℤ sum) in omega (arith, ints)

pub difference_fits : (t sum : ℤ) → unsigned_abs t ≤ reach 65536 → unsigned_abs sum ≤ 2 ^ 52 → FitsSigned w64 (t -ℤ sum)
difference_fits t sum low high = omega (arith, ints)

-- as a shift has it
pub half_shifted : (z : ℤ) → shr_z z 2 ≡ half z
half_shifted (pos n) = refl
half_shifted (negsuc n) = refl

pub shift_fits : (z : ℤ) → FitsSigned w64 z → FitsSigned w64 (shr_z z 2)
shift_fits z fits = record { sfits = omega (arith, mag_shr z 2, fits.sfits) }

-- the sum, read back from its bits
pub sum_read : (sum a : ℤ) (rows : ℕ) → FitsSigned w64 sum → FitsSigned w64 a → rows ≤ 65536 → unsigned_abs (sum +ℤ a) ≤ (rows + 1) * 2 ^ 36 → to_z w64 (of_z w64 (to_z w64 (of_z w64 sum) +ℤ to_z w64 (of_z w64 a))) ≡ sum +ℤ a
sum_read sum a rows sum_fits a_fits short bounded =
    let fits : FitsSigned w64 (sum +ℤ a) = omega (arith, ints) in
    cc (to_z-of_z w64 sum sum_fits, to_z-of_z w64 a a_fits, to_z-of_z w64 (sum +ℤ a) fits)

-- ---- halves of the totals
abbrev halves : ℤ → List ℤ → List ℤ
halves sum ts = map (λ t. half (t -ℤ sum)) ts

-- one column of an add
odd_column : (t sum a w : ℤ) → half (t +ℤ a *ℤ odd_of w -ℤ (sum +ℤ a)) ≡ half (t -ℤ sum) +ℤ a *ℤ w
odd_column t sum a w =
    let p = a *ℤ w in
    let same : t +ℤ a *ℤ odd_of w -ℤ (sum +ℤ a) ≡ t -ℤ sum +ℤ (p +ℤ p) = omega (arith, ints, odd_product a w) in
    ap half same ∙ half_more (t -ℤ sum) p

odd_grown : (sum a : ℤ) (ts ws : List ℤ) → length ws ≡ length ts → halves (sum +ℤ a) (grown ts a (map odd_of ws)) ≡ grown (halves sum ts) a ws
odd_grown sum a [] ws e = refl
odd_grown sum a (t ∷ ts) [] e = absurd (omega arith)
odd_grown sum a (t ∷ ts) (w ∷ ws) e =
    ap (λ h. h ∷ halves (sum +ℤ a) (grown ts a (map odd_of ws))) (odd_column t sum a w)
    ∙ ap (λ hs. (half (t -ℤ sum) +ℤ a *ℤ w) ∷ hs) (odd_grown sum a ts ws (omega arith))

halves_bounded : (sum : ℤ) (m n : ℕ) (ts : List ℤ) → Bounded (reach n) ts → unsigned_abs sum ≤ m * 2 ^ 36 → Bounded (reach (max m n)) (halves sum ts)
halves_bounded sum m n [] low high c = omega arith
halves_bounded sum m n (t ∷ ts) low high zero = half_reach t sum m n (low 0) high
halves_bounded sum m n (t ∷ ts) low high (suc c) = halves_bounded sum m n ts (λ d. low (suc d)) high c

halves_zeros : (n : ℕ) → halves (pos 0) (replicate n (pos 0)) ≡ replicate n (pos 0)
halves_zeros zero = refl
halves_zeros (suc n) = ap (λ ts. pos 0 ∷ ts) (halves_zeros n)

-- ---- what an odd layer means
pub odd_columns : (s : OddState) → columns_of (odd s) ≡ columns_of s.below
odd_columns s = length-map _ _ ∙ length-map s.below.totals (λ t. half (t -ℤ s.sum))

-- an odd layer whose parts keep their bounds
pub record Sound (s : OddState) : Type 0 where
  pub law : Lawful s.below
  pub bounded : unsigned_abs s.sum ≤ s.rows * 2 ^ 36

-- within its limit the layer shows what it states
pub odd_shows : (s : OddState) → Sound s → s.rows ≤ s.below.limit → odd s ≡ odd_states s
odd_shows s sound short =
    shown_same (odd_states s) (omega (arith, sound.law.within))
    (halves_bounded s.sum s.rows s.below.rows s.below.totals sound.law.bounded sound.bounded)

pub odd_total : (s : OddState) → Sound s → s.rows ≤ s.below.limit → (c : ℕ) → c < columns_of s.below → total_at (odd s) c ≡ Ok (half (slice_index_or s.below.totals c (pos 0) -ℤ s.sum))
odd_total s sound short c h =
    let halved : ℤ → ℤ = λ t. half (t -ℤ s.sum) in
    ap (λ m. total_at m c) (odd_shows s sound short)
    ∙ total_there (odd_states s) c (omega (arith, h, length-map s.below.totals halved))
    ∙ ap Ok (get_or-map halved s.below.totals c (pos 0) (pos 0) h)

abbrev stated : Meaning → ℕ → List ℤ → Meaning
stated b rows ts = record { rows = rows; limit = b.limit; totals = ts; takes = λ w. b.takes (odd_of w) }

-- ---- handing down
module _ (s : OddState) (sound : Sound s) (a : ℤ) (ws : List ℤ) (ok : Accepted (odd s) a ws) where
  -- what the layer accepts, the unit below accepts as it is handed down
  pub accepted_odd : Accepted s.below a (map odd_of ws)
  accepted_odd = record {
    one_each = length-map ws odd_of ∙ ok.one_each ∙ odd_columns s;
    room = omega (arith, ok.room, sound.law.within);
    small = ok.small;
    taken = λ c h.
        let h' : c < length ws = omega (arith, h, length-map ws odd_of) in
        ap s.below.takes (get_or-map odd_of ws c (pos 0) (pos 0) h') ∙ ok.taken c h';
  }

  pub sum_bounded : unsigned_abs (s.sum +ℤ a) ≤ (s.rows + 1) * 2 ^ 36
  sum_bounded = omega (arith, ints, abs_sum s.sum a, ok.small, sound.bounded)

  pub odd_room : s.rows < s.below.limit
  odd_room = omega (arith, ok.room)

  handed_sound : Sound (odd_handed_down s a ws)
  handed_sound = record {
    law = added_lawful s.below a (map odd_of ws) sound.law accepted_odd;
    bounded = sum_bounded;
  }

  odd_adds : odd (odd_handed_down s a ws) ≡ added (odd s) a ws
  odd_adds =
      let b = s.below in
      let counted : max (s.rows + 1) (b.rows + 1) ≡ max s.rows b.rows + 1 = omega arith in
      odd_shows (odd_handed_down s a ws) handed_sound (omega (arith, odd_room))
      ∙ ap (λ r. stated b r (halves (s.sum +ℤ a) (grown b.totals a (map odd_of ws)))) counted
      ∙ ap (stated b (max s.rows b.rows + 1)) (odd_grown s.sum a b.totals ws (ok.one_each ∙ odd_columns s))
      ∙ ap (λ m. added m a ws) (sym (odd_shows s sound (omega (arith, odd_room))))

-- ---- an add
pub odd_grows : (s : OddState) → Sound s → (a : ℤ) (ws : List ℤ) → odd (odd_add s a ws) ≡ after_add (odd s) a ws
odd_grows s sound a ws =
    unless_map odd (add_check (odd s) a ws) s (odd_handed_down s a ws) (added (odd s) a ws)
    (λ none. odd_adds s sound a ws (when_accepted (odd s) a ws none))

-- ---- a layer that is made or cleared
pub odd_new : (b : Meaning) → odd (odd_made b) ≡ fresh_odd b
odd_new b =
    let unclamped : min b.limit 0 ≡ 0 = omega arith in
    ap (λ r. stated b r (map (held (reach r)) (halves (pos 0) (replicate (columns_of b) (pos 0))))) unclamped
    ∙ ap (λ ts. stated b 0 (map (held 0) ts)) (halves_zeros (columns_of b))
    ∙ ap (stated b 0) (map_held 0 (replicate (columns_of b) (pos 0)) (zeros_bounded 0 (columns_of b)))

pub odd_cleared : (s : OddState) → odd (odd_clear s) ≡ cleared (odd s)
odd_cleared s = odd_new s.below ∙ ap (λ n. stated s.below 0 (replicate n (pos 0))) (sym (odd_columns s))

-- ---- lists of events
-- what every list of events keeps
record Kept (s : OddState) : Type 0 where
  sound : Sound s
  same_rows : s.rows ≡ s.below.rows

made_kept : (b : Meaning) → Lawful b → Kept (odd_made b)
made_kept b law = record {
  sound = record { law = cleared_lawful b law; bounded = omega arith };
  same_rows = refl;
}

add_kept : (s : OddState) (a : ℤ) (ws : List ℤ) → Kept s → Kept (odd_add s a ws)
add_kept s a ws kept =
    unless_both Kept (add_check (odd s) a ws) s (odd_handed_down s a ws) kept
    (λ none. record {
      sound = handed_sound s kept.sound a ws (when_accepted (odd s) a ws none);
      same_rows = ap (λ n. n + 1) kept.same_rows;
    })

clear_kept : (s : OddState) → Kept s → Kept (odd_clear s)
clear_kept s kept = made_kept s.below kept.sound.law

pub odd_unclamped : OddUnclamped
unfolding OddUnclamped
odd_unclamped below law events =
    let kept = after_keeps odd_add odd_clear Kept add_kept clear_kept (odd_made below) events (made_kept below law) in
    odd_shows (odd_after below events) kept.sound (omega (arith, kept.same_rows, kept.sound.law.within))

pub odd_single : OddSingle
unfolding OddSingle
odd_single below law events =
    as_single odd_add odd_clear Kept add_kept clear_kept odd (λ s a ws kept. odd_grows s kept.sound a ws) odd_cleared (odd_made below) events (made_kept below law)
    ∙ ap (λ m. unit_after m events) (odd_new below)
