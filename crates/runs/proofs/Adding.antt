-- A row that passed its checks, added to the unit and the slacks.
use Rattle.std.proofs.Common.{◌≡◌, ℕ, ◌+◌, ◌*◌, ◌^◌, ◌<◌, ◌≤◌, Bool, true, false, cond, List, length, get_or, ℤ, pos, nat_abs, None, Result, refl, sym, subst, ap, ◌∙◌, ⊎_elim, arith}
use Rattle.std.proofs.lemmas.List.FromFn.{get_or-map-range_with_len, length-map-range_with_len}
use Rattle.std.proofs.lemmas.List.{get_or_past}
use Rattle.std.proofs.lemmas.Bool.{cases_lt}
use Rattle.std.specs.Option.{option_map}
use Rattle.std.specs.Result.{IsOk}
use Rattle.refusals.specs.declared.Refusal.{Refusal}
use Rattle.refusals.specs.declared.Refusal.TheVariants.{WeightNotTaken}
use Rattle.refusals.specs.Refusing.{verdict}
use Rattle.units.specs.Meaning.{Meaning, columns_of, first_untaken, add_check, added, after_add}
use Rattle.units.proofs.Checks.{Accepted, answers_ok, leaves_added, taken_each, untaken_first}
use Rattle.runs.specs.State.{State, put, widened}

-- ---- slacks
pub slacks_bounded : (b : Bool) (ns : List ℕ) (ws : List ℤ) (n : ℕ) → ((c : ℕ) → get_or ns c 0 ≤ 255 * n) → ((c : ℕ) → nat_abs (get_or ws c (pos 0)) ≤ 255) → (c : ℕ) → get_or (cond b (widened ns ws) ns) c 0 ≤ 255 * (n + 1)
slacks_bounded false ns ws n h k c = omega (arith, h c)
slacks_bounded true ns ws n h k c = ⊎_elim inside outside (cases_lt c (length ns))
  where
    inside : c < length ns → get_or (widened ns ws) c 0 ≤ 255 * (n + 1)
    inside l = omega (arith, get_or-map-range_with_len (λ i. get_or ns i 0 + nat_abs (get_or ws i (pos 0))) 0 (length ns) c c 0 l (omega arith), h c, k c)

    outside : length ns ≤ c → get_or (widened ns ws) c 0 ≤ 255 * (n + 1)
    outside l = omega (arith, get_or_past (widened ns ws) c 0 (omega (arith, l, length-map-range_with_len (λ i. get_or ns i 0 + nat_abs (get_or ws i (pos 0))) 0 (length ns))))

-- ---- the unit accepts a row of which it takes every weight
pub accepted_row : (m : Meaning) (a : ℤ) (ws : List ℤ) → length ws ≡ columns_of m → m.rows < m.limit → nat_abs a < 2 ^ 36 → first_untaken m.takes ws ≡ None → Accepted m a ws
accepted_row m a ws size room small taken =
    record { one_each = size; room = room; small = small; taken = taken_each m.takes WeightNotTaken 0 ws (untaken_first m.takes WeightNotTaken 0 ws ∙ ap (option_map WeightNotTaken) taken) }

-- ---- the unit as it answers and is left at the number that it was given
pub unit_taken : (m : Meaning) (a b : ℤ) (ws : List ℤ) → a ≡ b → Accepted m b ws → (r : Result (Unit {0}) Refusal) → r ≡ verdict (add_check m a ws) → IsOk r
unit_taken m a b ws same ok r is = subst IsOk (sym (subst (λ x. r ≡ verdict (add_check m x ws)) same is ∙ sym (answers_ok m b ws ok))) refl

pub unit_added : (m n : Meaning) (a b : ℤ) (ws : List ℤ) → a ≡ b → Accepted m b ws → n ≡ after_add m a ws → n ≡ added m b ws
unit_added m n a b ws same ok is = subst (λ x. n ≡ after_add m x ws) same is ∙ sym (leaves_added m b ws ok)

-- ---- the run with the row
pub row_put : (s : State) (a : ℤ) (b : Bool) (ws : List ℤ) (m : Meaning) (ns : List ℕ) → m ≡ added s.unit a ws → ns ≡ cond b (widened s.slacks ws) s.slacks
    → ◌≡◌ {A = State} (record { aligned = s.aligned; least = s.least; extra = s.extra; shared = s.shared; rows = s.rows + 1; slacks = ns; unit = m }) (put s a b ws)
row_put s a b ws m ns p q =
    ap (λ (k : Meaning). record { aligned = s.aligned; least = s.least; extra = s.extra; shared = s.shared; rows = s.rows + 1; slacks = ns; unit = k }) p
    ∙ ap (λ (k : List ℕ). record { aligned = s.aligned; least = s.least; extra = s.extra; shared = s.shared; rows = s.rows + 1; slacks = k; unit = added s.unit a ws }) q
