-- The layers keep the laws of a unit. Nothing here has to be believed: these are proofs, which the layers name.
use Rattle.std.specs.Prelude.{ℕ, zero, suc, ◌≤◌, min, T, List, [], ◌∷◌, map, ℤ, pos, negsuc, ◌-ℤ◌, slice_index_or, unsigned_abs}
use Rattle.std.proofs.Common.{arith}
use Rattle.std.proofs.lemmas.List.{length-map}
use Rattle.std.proofs.lemmas.Int.{ints}
use Rattle.integers.proofs.Laws.{abs_neg}
use Rattle.units.specs.Meaning.{Meaning, Lawful, columns_of, reach}
use Rattle.units.proofs.Reach.{length_plus}
use Rattle.layers.specs.Layer.{held, shown}
use Rattle.layers.specs.Drain.{DrainState, drain_states, drain}
use Rattle.layers.specs.Halving.{odd_of, half}
use Rattle.layers.specs.Odd.{OddState, odd_states, odd}

unsigned_abs_held : (n : ℕ) (z : ℤ) → unsigned_abs (held n z) ≤ n
unsigned_abs_held n (pos k) = omega arith
unsigned_abs_held n (negsuc k) = omega (arith, abs_neg (min n (suc k)))

get_or_held : (n : ℕ) (ts : List ℤ) (c : ℕ) → unsigned_abs (slice_index_or (map (held n) ts) c (pos 0)) ≤ n
get_or_held n [] c = omega arith
get_or_held n (t ∷ ts) zero = unsigned_abs_held n t
get_or_held n (t ∷ ts) (suc c) = get_or_held n ts c

pub shown_lawful : (m : Meaning) → 1 ≤ columns_of m → columns_of m ≤ 16 → 1 ≤ m.limit → m.limit ≤ 65536 → ((w : ℤ) → T (m.takes w) → unsigned_abs w ≤ 255) → Lawful (shown m)
shown_lawful m some few some_row few_rows taken =
    let counted = length-map m.totals (held (reach (min m.limit m.rows))) in
    record {
      some_column = omega (arith, counted);
      few_columns = omega (arith, counted);
      some_row = some_row;
      few_rows = few_rows;
      within = omega arith;
      taken = taken;
      bounded = get_or_held (reach (min m.limit m.rows)) m.totals;
    }

pub drain_lawful : (s : DrainState) → Lawful s.below → Lawful (drain s)
drain_lawful s law =
    let counted = length_plus s.below.totals s.sums in
    shown_lawful (drain_states s) (omega (arith, counted, law.some_column)) (omega (arith, counted, law.few_columns)) (omega arith) (omega arith) law.taken

pub odd_lawful : (s : OddState) → Lawful s.below → Lawful (odd s)
odd_lawful s law =
    let counted = length-map s.below.totals (λ t. half (t -ℤ s.sum)) in
    shown_lawful (odd_states s) (omega (arith, counted, law.some_column)) (omega (arith, counted, law.few_columns)) law.some_row law.few_rows
    (λ w t. let light = law.taken (odd_of w) t in omega (arith, ints))
