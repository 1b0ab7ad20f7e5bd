-- The checks of a unit's calls, one after the other.
use Rattle.std.specs.Prelude.{◌≡◌, ℕ, zero, suc, ◌+◌, ◌^◌, ◌<◌, ◌≤◌, Bool, true, false, cond, not, T, List, [], ◌∷◌, map, length, ℤ, pos, ◌*ℤ◌, Some, None, Ok, Err, Option, FitsSigned, nat_le, slice_index_or, unsigned_abs, refl}
use Rattle.std.proofs.Common.{sym, ap, subst, ◌∙◌, ⊎_elim, arith, le_of_suc-le-suc, to_z, of_z}
use Rattle.std.specs.Int.{w64}
use Rattle.std.proofs.lemmas.List.{get_or_past, length-replicate}
use Rattle.std.proofs.lemmas.Int.{to_z-of_z}
use Rattle.std.proofs.lemmas.Bool.{cond-true, cond-false, cases_lt, not-false, eqb-true, leb-true, leb-false, le-leb, lt-leb}
use Rattle.std.proofs.lemmas.Bool.Decides.{nat_tests}
use Rattle.std.proofs.lemmas.Float.{T_from_true}
use Rattle.refusals.specs.declared.Refusal.{Refusal}
use Rattle.refusals.specs.declared.Refusal.TheVariants.{WeightNotTaken, NoSuchColumn}
use Rattle.units.specs.declared.row.Number.{Number}
use Rattle.units.specs.declared.row.Row.{Row}
use Rattle.refusals.specs.Refusing.{refuse, verdict, unless, Made}
use Rattle.std.specs.List.{position_from}
use Rattle.std.specs.Option.{option_map}
use Rattle.refusals.proofs.Refusing.{none_some, refused, accepted, changed, was_made, when_ok, when_err, passed}
use Rattle.units.proofs.Reach.{length_plus, grown_bounded, zeros_bounded}
use Rattle.units.specs.Meaning.{Meaning, Lawful, Bounded, columns_of, untaken, first_untaken, number_check, add_check, added, after_add, cleared, column_check, total_at, reach}

-- ---- the checks of an add
-- the other checks are passed, so the weights decide
pub weights_decide : (m : Meaning) (a : ℤ) (ws : List ℤ) → length ws ≡ columns_of m → m.rows < m.limit → unsigned_abs a < 2 ^ 36 → add_check m a ws ≡ untaken m.takes WeightNotTaken 0 ws
weights_decide m a ws one_each room small = grind (arith, nat_tests)

untaken_by : (b : Bool) (refusal : ℕ → Refusal) (column : ℕ) (o : Option Refusal) (p : Option ℕ) → o ≡ option_map refusal p → cond b o (Some (refusal column)) ≡ option_map refusal (cond (not b) (Some column) p)
untaken_by true refusal column o p e = e
untaken_by false refusal column o p e = refl

-- the refusal is that of the first column whose weight is not taken
pub untaken_first : (takes : ℤ → Bool) (refusal : ℕ → Refusal) (column : ℕ) (ws : List ℤ) → untaken takes refusal column ws ≡ option_map refusal (position_from (λ w. not (takes w)) column ws)
untaken_first takes refusal column [] = refl
untaken_first takes refusal column (w ∷ ws) = untaken_by (takes w) refusal column _ _ (untaken_first takes refusal (column + 1) ws)

-- the same as the first column whose weight is not taken tells it
pub column_decides : (m : Meaning) (a : ℤ) (ws : List ℤ) (column : Option ℕ) → length ws ≡ columns_of m → m.rows < m.limit → unsigned_abs a < 2 ^ 36 → column ≡ first_untaken m.takes ws → add_check m a ws ≡ option_map WeightNotTaken column
column_decides m a ws column one_each room small e =
    weights_decide m a ws one_each room small ∙ untaken_first m.takes WeightNotTaken 0 ws ∙ ap (option_map WeightNotTaken) (sym e)

-- an add that no check refuses
pub record Accepted (m : Meaning) (a : ℤ) (ws : List ℤ) : Type 0 where
  pub one_each : length ws ≡ columns_of m
  pub room : m.rows < m.limit
  pub small : unsigned_abs a < 2 ^ 36
  pub taken : (c : ℕ) → c < length ws → m.takes (slice_index_or ws c (pos 0)) ≡ true

first_taken : (b : Bool) (o : Option Refusal) (r : Refusal) → cond b o (Some r) ≡ None → (b ≡ true) × (o ≡ None)
first_taken true o r e = (refl, e)
first_taken false o r e = absurd (none_some e refl)

pub taken_each : (takes : ℤ → Bool) (refusal : ℕ → Refusal) (k : ℕ) (ws : List ℤ) → untaken takes refusal k ws ≡ None → (c : ℕ) → c < length ws → takes (slice_index_or ws c (pos 0)) ≡ true
taken_each takes refusal k [] e c h = absurd (omega arith)
taken_each takes refusal k (w ∷ ws) e zero h = (first_taken (takes w) _ _ e).0
taken_each takes refusal k (w ∷ ws) e (suc c) h = taken_each takes refusal (k + 1) ws (first_taken (takes w) _ _ e).1 c (le_of_suc-le-suc h)

pub none_untaken : (takes : ℤ → Bool) (refusal : ℕ → Refusal) (k : ℕ) (ws : List ℤ) → ((c : ℕ) → c < length ws → takes (slice_index_or ws c (pos 0)) ≡ true) → untaken takes refusal k ws ≡ None
none_untaken takes refusal k [] all = refl
none_untaken takes refusal k (w ∷ ws) all =
    cond-true _ _ _ (all 0 (omega arith)) ∙ none_untaken takes refusal (k + 1) ws (λ c h. all (suc c) (omega arith))

pub when_accepted : (m : Meaning) (a : ℤ) (ws : List ℤ) → add_check m a ws ≡ None → Accepted m a ws
when_accepted m a ws e =
    let counted = passed _ _ _ e in
    let roomy = passed _ _ _ counted.1 in
    let small = passed _ _ _ roomy.1 in
    record {
      one_each = eqb-true _ _ (not-false _ counted.0);
      room = leb-false _ _ roomy.0;
      small = leb-false _ _ small.0;
      taken = taken_each m.takes WeightNotTaken 0 ws small.1;
    }

pub accepts : (m : Meaning) (a : ℤ) (ws : List ℤ) → Accepted m a ws → add_check m a ws ≡ None
accepts m a ws ok = weights_decide m a ws ok.one_each ok.room ok.small ∙ none_untaken m.takes WeightNotTaken 0 ws ok.taken

-- what making a number tells, the number read back from bits
pub number_at_ok : (a : ℤ) (n : Number) → FitsSigned w64 a → Made (number_check (to_z w64 (of_z w64 a))) (λ n. n.value ≡ to_z w64 (of_z w64 a)) (Ok n) → (n.value ≡ a) × (unsigned_abs a < 2 ^ 36)
number_at_ok a n fits e =
    let same = (was_made _ (λ n. n.value ≡ to_z w64 (of_z w64 a)) n e).1 ∙ to_z-of_z w64 a fits in
    (same, subst (λ z. unsigned_abs z < 2 ^ 36) same n.small)

-- the row that `checked_row` gives: no check refuses it, and it is the one that was asked for
pub record Checked (m : Meaning) (a : ℤ) (ws : List ℤ) (row : Row) : Type 0 where
  pub accepted : Accepted m a ws
  pub number : row.number.value ≡ a
  pub weights : row.weights.now ≡ ws

-- its number read back from bits
pub checked : (m : Meaning) (a : ℤ) (ws : List ℤ) (row : Row) → FitsSigned w64 a → Made (add_check m (to_z w64 (of_z w64 a)) ws) (λ r. (r.number.value ≡ to_z w64 (of_z w64 a)) × (r.weights.now ≡ ws)) (Ok row) → Checked m a ws row
checked m a ws row fits e =
    let given = subst (λ b. Made (add_check m b ws) (λ r. (r.number.value ≡ b) × (r.weights.now ≡ ws)) (Ok row)) (to_z-of_z w64 a fits) e in
    let parts = was_made (add_check m a ws) (λ r. (r.number.value ≡ a) × (r.weights.now ≡ ws)) row given in
    record { accepted = when_accepted m a ws parts.0; number = parts.1.0; weights = parts.1.1 }

-- what `check` tells where it answers `Ok`, its number read back from bits
pub accepted_at_ok : (m : Meaning) (a : ℤ) (ws : List ℤ) → FitsSigned w64 a → Ok tt ≡ verdict (add_check m (to_z w64 (of_z w64 a)) ws) → Accepted m a ws
accepted_at_ok m a ws fits e =
    when_accepted m a ws (when_ok _ tt tt (subst (λ b. Ok tt ≡ verdict (add_check m b ws)) (to_z-of_z w64 a fits) e)).0

-- what an accepted add answers, and leaves
pub answers_ok : (m : Meaning) (a : ℤ) (ws : List ℤ) → Accepted m a ws → Ok tt ≡ verdict (add_check m a ws)
answers_ok m a ws ok = accepted (accepts m a ws ok) refl

pub leaves_added : (m : Meaning) (a : ℤ) (ws : List ℤ) → Accepted m a ws → added m a ws ≡ after_add m a ws
leaves_added m a ws ok = changed m (added m a ws) (accepts m a ws ok)

-- the weights of an accepted add are small, where only small ones are taken
pub weights_bounded : (m : Meaning) (a : ℤ) (ws : List ℤ) → ((w : ℤ) → T (m.takes w) → unsigned_abs w ≤ 255) → Accepted m a ws → Bounded 255 ws
weights_bounded m a ws small ok c =
    ⊎_elim
    (λ h. small (slice_index_or ws c (pos 0)) (T_from_true _ (ok.taken c h)))
    (λ h. rw (get_or_past ws c (pos 0) h) (omega arith))
    (cases_lt c (length ws))

-- ---- the laws, call by call
pub added_lawful : (m : Meaning) (a : ℤ) (ws : List ℤ) → Lawful m → Accepted m a ws → Lawful (added m a ws)
added_lawful m a ws law ok =
    let counted = length_plus m.totals (map (λ w. a *ℤ w) ws) in
    record {
      some_column = omega (arith, counted, law.some_column);
      few_columns = omega (arith, counted, law.few_columns);
      some_row = law.some_row;
      few_rows = law.few_rows;
      within = omega (arith, ok.room);
      taken = law.taken;
      bounded = grown_bounded m.rows m.totals a ws law.bounded ok.small (weights_bounded m a ws law.taken ok);
    }

pub cleared_lawful : (m : Meaning) → Lawful m → Lawful (cleared m)
cleared_lawful m law =
    let counted = length-replicate (columns_of m) (pos 0) in
    record {
      some_column = omega (arith, counted, law.some_column);
      few_columns = omega (arith, counted, law.few_columns);
      some_row = law.some_row;
      few_rows = law.few_rows;
      within = omega arith;
      taken = law.taken;
      bounded = zeros_bounded 0 (columns_of m);
    }

-- ---- the question for a total
not_met : (met : Bool) (r : Refusal) → refuse met r ≡ None → met ≡ false
not_met true r e = absurd (none_some e refl)
not_met false r e = refl

met : (b : Bool) (r s : Refusal) → refuse b r ≡ Some s → (b ≡ true) × (s ≡ r)
met true r s e = (refl, cc)
met false r s e = absurd (none_some refl e)

pub total_read : (m : Meaning) (c : ℕ) (x : ℤ) → total_at m c ≡ Ok x → (c < columns_of m) × (x ≡ slice_index_or m.totals c (pos 0))
total_read m c x e =
    let parts = when_ok (column_check (columns_of m) c) (slice_index_or m.totals c (pos 0)) x (sym e) in
    (leb-false (columns_of m) c (not_met (nat_le (columns_of m) c) NoSuchColumn parts.0), parts.1)

pub total_there : (m : Meaning) (c : ℕ) → c < columns_of m → total_at m c ≡ Ok (slice_index_or m.totals c (pos 0))
total_there m c h = sym (accepted (cond-false _ _ _ (lt-leb (columns_of m) c h)) refl)

pub total_past : (m : Meaning) (c : ℕ) → columns_of m ≤ c → total_at m c ≡ Err NoSuchColumn
total_past m c h = sym (refused (slice_index_or m.totals c (pos 0)) (cond-true _ _ _ (le-leb (columns_of m) c h)))

-- units of as many columns refuse alike
pub total_refused : (m n : Meaning) (c : ℕ) (r : Refusal) → columns_of n ≡ columns_of m → total_at m c ≡ Err r → total_at n c ≡ Err r
total_refused m n c r same e =
    let parts = met (nat_le (columns_of m) c) NoSuchColumn r (when_err (column_check (columns_of m) c) (slice_index_or m.totals c (pos 0)) r (sym e)) in
    total_past n c (omega (arith, same, leb-true (columns_of m) c parts.0)) ∙ ap Err (sym parts.1)

pub total_bounded : (m : Meaning) → Lawful m → Bounded (reach 65536) m.totals
total_bounded m law c = omega (arith, law.bounded c, law.within, law.few_rows)

-- ---- what a call leaves, refused or not
pub unless_both : {X : Type 0} (P : X → Type 0) (o : Option Refusal) (old new : X) → P old → (o ≡ None → P new) → P (unless o old new)
unless_both P None old new p q = q refl
unless_both P (Some r) old new p q = p

pub unless_map : {X Y : Type 0} (f : X → Y) (o : Option Refusal) (old new : X) (new' : Y) → (o ≡ None → f new ≡ new') → f (unless o old new) ≡ unless o (f old) new'
unless_map f None old new new' e = e refl
unless_map f (Some r) old new new' e = refl
