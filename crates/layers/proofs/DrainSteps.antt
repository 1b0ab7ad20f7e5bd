-- The drain layer: what moving up and handing down make of what it means, and why it never shows a bound.
use Rattle.std.specs.Prelude.{◌≡◌, ℕ, zero, suc, ◌+◌, ◌<◌, ◌≤◌, List, [], ◌∷◌, ◌++◌, map, length, get_or, take, drop, replicate, ℤ, pos, ◌+ℤ◌, ◌*ℤ◌, Ok, ◌==◌, ◌≢◌, slice_index_or, slice_set, unsigned_abs, refl}
use Rattle.std.proofs.Common.{sym, ap, subst, ◌∙◌, arith, le_of_suc-le-suc}
use Rattle.std.proofs.lemmas.List.{length-map, length-take-le}
use Rattle.std.proofs.lemmas.Bool.{cond_both, eqb-false}
use Rattle.std.proofs.lemmas.Int.{ints}
use Rattle.units.specs.Meaning.{Meaning, Lawful, Bounded, columns_of, reach, plus_each, add_check, added, after_add, cleared, total_at}
use Rattle.units.proofs.Checks.{Accepted, when_accepted, added_lawful, cleared_lawful, total_read, total_there, total_bounded, unless_both, unless_map}
use Rattle.units.proofs.Reach.{length_plus, get_or_plus, plus_bounded, plus_more, get_or_plus_past, take_bounded, zeros_bounded}
use Rattle.layers.specs.Layer.{held, shown, unit_after}
use Rattle.layers.specs.Drain.{DrainState, drain_made, drain_states, drain, fresh_drain, moved_up, room_made, handed_down, drain_add, drain_clear, drain_after, DrainUnclamped, DrainSingle}
use Rattle.layers.proofs.Events.{after_keeps, as_single}
use Rattle.layers.proofs.Shown.{map_held, shown_same}

-- ---- lists of sums
plus_swap : (xs ys zs : List ℤ) → plus_each (plus_each xs ys) zs ≡ plus_each (plus_each xs zs) ys
plus_swap [] ys zs = refl
plus_swap (x ∷ xs) [] [] = refl
plus_swap (x ∷ xs) [] (z ∷ zs) = refl
plus_swap (x ∷ xs) (y ∷ ys) [] = refl
plus_swap (x ∷ xs) (y ∷ ys) (z ∷ zs) =
    let head : (x +ℤ y) +ℤ z ≡ (x +ℤ z) +ℤ y = omega (arith, ints) in
    ap (λ t. t ∷ plus_each (plus_each xs ys) zs) head ∙ ap (λ ts. ((x +ℤ z) +ℤ y) ∷ ts) (plus_swap xs ys zs)

-- zeros beside what was moved up
plus_moved : (xs ys : List ℤ) → length ys ≤ length xs → plus_each (replicate (length ys) (pos 0)) (plus_each xs ys) ≡ plus_each ys xs
plus_moved xs [] h = refl
plus_moved [] (y ∷ ys) h = absurd (omega arith)
plus_moved (x ∷ xs) (y ∷ ys) h =
    let head : pos 0 +ℤ (x +ℤ y) ≡ y +ℤ x = omega (arith, ints) in
    ap (λ t. t ∷ plus_each (replicate (length ys) (pos 0)) (plus_each xs ys)) head ∙ ap (λ ts. (y +ℤ x) ∷ ts) (plus_moved xs ys (le_of_suc-le-suc h))

-- a front as long as the second list takes all of it
pub plus_front : (xs ys : List ℤ) → length ys ≤ length xs → plus_each (take (length ys) xs) ys ++ drop (length ys) xs ≡ plus_each xs ys
plus_front [] [] h = refl
plus_front (x ∷ xs) [] h = refl
plus_front [] (y ∷ ys) h = absurd (omega arith)
plus_front (x ∷ xs) (y ∷ ys) h = ap (λ zs. (x +ℤ y) ∷ zs) (plus_front xs ys (le_of_suc-le-suc h))

plus_zeros : (n m : ℕ) → plus_each (replicate n (pos 0)) (replicate m (pos 0)) ≡ replicate n (pos 0)
plus_zeros zero m = refl
plus_zeros (suc n) zero = refl
plus_zeros (suc n) (suc m) = ap (λ ts. pos 0 ∷ ts) (plus_zeros n m)

-- a loop's step: one total more is moved up
pub record Moved (m : Meaning) (sums now' : List ℤ) (i : ℕ) (x : ℤ) : Type 0 where
  pub old : unsigned_abs (slice_index_or now' i (pos 0)) ≤ reach 65536
  pub more : unsigned_abs x ≤ reach 65536
  pub step : slice_set now' i (slice_index_or now' i (pos 0) +ℤ x) ≡ plus_each sums (take (i + 1) m.totals)

pub moved : (m : Meaning) (sums now' : List ℤ) (i : ℕ) (x : ℤ) → Lawful m → columns_of m ≤ length sums → Bounded (reach 65536) sums → now' ≡ plus_each sums (take i m.totals) → total_at m i ≡ Ok x → Moved m sums now' i x
moved m sums now' i x law wide bounded so_far read =
    let total = total_read m i x read in
    let same = ap (λ ts. get_or ts i (pos 0)) so_far in
    record {
      old = rw (same ∙ get_or_plus_past sums m.totals i) (bounded i);
      more = rw total.1 (total_bounded m law i);
      step = (cc (total.1, so_far)) ∙ sym (plus_more sums m.totals i (omega (arith, total.0)) total.0);
    }

-- the same where the front of the sums is gone over that has a total for each
pub moved_front : (m : Meaning) (sums now' : List ℤ) (n i : ℕ) (x : ℤ) → Lawful m → n ≡ columns_of m → length sums ≡ 16 → Bounded (reach 65536) sums → now' ≡ plus_each (take n sums) (take i m.totals) → total_at m i ≡ Ok x → Moved m (take n sums) now' i x
moved_front m sums now' n i x law counted wide bounded so_far read =
    moved m (take n sums) now' i x law (omega (arith, counted, length-take-le n sums (omega (arith, counted, law.few_columns, wide)))) (take_bounded _ n sums bounded) so_far read

-- ---- what a drain means
pub drain_columns : (s : DrainState) → columns_of (drain s) ≡ columns_of s.below
drain_columns s = length-map _ _ ∙ length_plus s.below.totals s.sums

-- a drain whose parts keep their bounds
pub record Sound (s : DrainState) : Type 0 where
  pub law : Lawful s.below
  pub wide : length s.sums ≡ 16
  pub bounded : Bounded (reach s.rows) s.sums

-- within its limit the layer shows what it states
pub drain_shows : (s : DrainState) → Sound s → s.rows + s.below.rows ≤ 65536 → drain s ≡ drain_states s
drain_shows s sound short =
    shown_same (drain_states s) short
    (λ c. omega (arith, plus_bounded (reach s.below.rows) (reach s.rows) s.below.totals s.sums sound.law.bounded sound.bounded c))

pub drain_total : (s : DrainState) → Sound s → s.rows + s.below.rows ≤ 65536 → (c : ℕ) → c < columns_of s.below → total_at (drain s) c ≡ Ok (slice_index_or s.below.totals c (pos 0) +ℤ slice_index_or s.sums c (pos 0))
drain_total s sound short c h =
    ap (λ m. total_at m c) (drain_shows s sound short)
    ∙ total_there (drain_states s) c (omega (arith, h, length_plus s.below.totals s.sums))
    ∙ ap Ok (get_or_plus s.below.totals s.sums c h)

abbrev stated : Meaning → ℕ → List ℤ → Meaning
stated b rows ts = record { rows = rows; limit = 65536; totals = ts; takes = b.takes }

-- ---- moving up
-- it changes nothing that shows
moves_show : (s : DrainState) → columns_of s.below ≤ length s.sums → drain (moved_up s) ≡ drain s
moves_show s wide =
    let b = s.below in
    let counted : s.rows + b.rows + 0 ≡ s.rows + b.rows = omega arith in
    ap shown (ap (λ r. stated b r (plus_each (replicate (columns_of b) (pos 0)) (plus_each s.sums b.totals))) counted ∙ ap (stated b (s.rows + b.rows)) (plus_moved s.sums b.totals wide))

moved_sound : (s : DrainState) → Sound s → Sound (moved_up s)
moved_sound s sound = record {
  law = cleared_lawful s.below sound.law;
  wide = length_plus s.sums s.below.totals ∙ sound.wide;
  bounded = λ c. omega (arith, plus_bounded (reach s.rows) (reach s.below.rows) s.sums s.below.totals sound.bounded sound.law.bounded c);
}

pub room_shows : (s : DrainState) → Sound s → drain (room_made s) ≡ drain s
room_shows s sound =
    cond_both (s.below.rows == s.below.limit) (moved_up s) s (λ t. drain t ≡ drain s)
    (λ _. moves_show s (omega (arith, sound.law.few_columns, sound.wide)))
    (λ _. refl)

pub room_sound : (s : DrainState) → Sound s → Sound (room_made s)
room_sound s sound = cond_both (s.below.rows == s.below.limit) (moved_up s) s Sound (λ _. moved_sound s sound) (λ _. sound)

le_ne_lt : {m n : ℕ} → m ≤ n → (m ≢ n) → m < n
le_ne_lt h ne = omega arith

pub room_there : (s : DrainState) → Sound s → (room_made s).below.rows < (room_made s).below.limit
room_there s sound =
    cond_both (s.below.rows == s.below.limit) (moved_up s) s (λ t. t.below.rows < t.below.limit)
    (λ _. sound.law.some_row)
    (λ full. le_ne_lt sound.law.within (eqb-false _ _ full))

-- ---- handing down
module _ (s : DrainState) (a : ℤ) (ws : List ℤ) (ok : Accepted (drain s) a ws) where
  pub drain_room : s.rows + s.below.rows < 65536
  drain_room = omega (arith, ok.room)

  module _ (room : s.below.rows < s.below.limit) where
    -- what the layer accepts, the unit below accepts, if it has room
    pub accepted_below : Accepted s.below a ws
    accepted_below = record {
      one_each = ok.one_each ∙ drain_columns s;
      room = room;
      small = ok.small;
      taken = ok.taken;
    }

    handed_sound : Sound s → Sound (handed_down s a ws)
    handed_sound sound = record {
      law = added_lawful s.below a ws sound.law accepted_below;
      wide = sound.wide;
      bounded = sound.bounded;
    }

    drain_adds : Sound s → drain (handed_down s a ws) ≡ added (drain s) a ws
    drain_adds sound =
        let b = s.below in
        let counted : s.rows + (b.rows + 1) ≡ s.rows + b.rows + 1 = omega arith in
        let scaled = map (λ w. a *ℤ w) ws in
        drain_shows (handed_down s a ws) (handed_sound sound) (omega (arith, drain_room))
        ∙ ap (λ r. stated b r (plus_each (plus_each b.totals scaled) s.sums)) counted
        ∙ ap (stated b (s.rows + b.rows + 1)) (plus_swap b.totals scaled s.sums)
        ∙ ap (λ m. added m a ws) (sym (drain_shows s sound (omega (arith, drain_room))))

-- ---- an add
module _ (s : DrainState) (sound : Sound s) (a : ℤ) (ws : List ℤ) where
  -- what the layer accepts it still accepts once there is room
  pub still_accepted : Accepted (drain s) a ws → Accepted (drain (room_made s)) a ws
  still_accepted ok = subst (λ m. Accepted m a ws) (sym (room_shows s sound)) ok

  pub drain_grows : drain (drain_add s a ws) ≡ after_add (drain s) a ws
  drain_grows =
      unless_map drain (add_check (drain s) a ws) s (handed_down (room_made s) a ws) (added (drain s) a ws)
      (λ none.
      let ok = still_accepted (when_accepted (drain s) a ws none) in
      drain_adds (room_made s) a ws ok (room_there s sound) (room_sound s sound) ∙ ap (λ m. added m a ws) (room_shows s sound))

-- ---- a drain that is made or cleared
pub drain_new : (b : Meaning) → drain (drain_made b) ≡ fresh_drain b
drain_new b =
    ap (λ ts. stated b 0 (map (held 0) ts)) (plus_zeros (columns_of b) 16)
    ∙ ap (stated b 0) (map_held 0 (replicate (columns_of b) (pos 0)) (zeros_bounded 0 (columns_of b)))

pub drain_cleared : (s : DrainState) → drain (drain_clear s) ≡ cleared (drain s)
drain_cleared s = drain_new s.below ∙ ap (λ n. stated s.below 0 (replicate n (pos 0))) (sym (drain_columns s))

-- ---- lists of events
-- what every list of events keeps
record Kept (s : DrainState) : Type 0 where
  sound : Sound s
  short : s.rows + s.below.rows ≤ 65536

made_kept : (b : Meaning) → Lawful b → Kept (drain_made b)
made_kept b law = record {
  sound = record { law = cleared_lawful b law; wide = refl; bounded = zeros_bounded 0 16 };
  short = omega arith;
}

add_kept : (s : DrainState) (a : ℤ) (ws : List ℤ) → Kept s → Kept (drain_add s a ws)
add_kept s a ws kept =
    let sound = kept.sound in
    unless_both Kept (add_check (drain s) a ws) s (handed_down (room_made s) a ws) kept
    (λ none.
    let ok = still_accepted s sound a ws (when_accepted (drain s) a ws none) in
    let t = room_made s in
    record {
      sound = handed_sound t a ws ok (room_there s sound) (room_sound s sound);
      short = omega (arith, drain_room t a ws ok);
    })

clear_kept : (s : DrainState) → Kept s → Kept (drain_clear s)
clear_kept s kept = made_kept s.below kept.sound.law

pub drain_unclamped : DrainUnclamped
unfolding DrainUnclamped
drain_unclamped below law events =
    let kept = after_keeps drain_add drain_clear Kept add_kept clear_kept (drain_made below) events (made_kept below law) in
    drain_shows (drain_after below events) kept.sound kept.short

pub drain_single : DrainSingle
unfolding DrainSingle
drain_single below law events =
    as_single drain_add drain_clear Kept add_kept clear_kept drain (λ s a ws kept. drain_grows s kept.sound a ws) drain_cleared (drain_made below) events (made_kept below law)
    ∙ ap (λ m. unit_after m events) (drain_new below)
