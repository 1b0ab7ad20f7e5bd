-- A tile that passed its checks, added row by row.
use Rattle.std.proofs.Common.{◌≡◌, ℕ, ◌+◌, ◌<◌, ◌≤◌, Bool, List, ◌∷◌, length, get_or, drop, ℤ, Some, None, fold, Option, sym, refl, ap, ◌∙◌, arith}
use Rattle.std.proofs.lemmas.List.{drop_more, drop_all}
use Rattle.std.specs.Option.{option_map}
use Rattle.refusals.specs.declared.Refusal.{Refusal}
use Rattle.refusals.specs.declared.Refusal.TheVariants.{WeightNotTakenAt}
use Rattle.refusals.proofs.Refusing.{none_some, both_passed}
use Rattle.sums.specs.Terms.{step_of, value, cut, lost}
use Rattle.formats.specs.Coding.{Decoded}
use Rattle.alignment.specs.Tile.{Tile}
use Rattle.alignment.specs.Cutting.{aligned, word_check}
use Rattle.alignment.specs.declared.cutting.Aligned.{Aligned}
use Rattle.sheets.specs.Page.{Page, line}
use Rattle.units.specs.Meaning.{untaken, first_untaken}
use Rattle.units.proofs.Checks.{untaken_first}
use Rattle.runs.specs.Checks.{Setting, row_check, rows_check}
use Rattle.runs.specs.State.{State, Row, setting_of, step_size, put, add_row, rows_of}
use Rattle.runs.proofs.Holding.{setting_kept}

-- where no weight is refused, none is left
map_none : (o : Option ℕ) (f : ℕ → Refusal) → option_map f o ≡ None → o ≡ None
map_none None f e = refl
map_none (Some c) f e = absurd (none_some e refl)

none_untaken : (takes : ℤ → Bool) (row : ℕ) (ws : List ℤ) → untaken takes (WeightNotTakenAt row) 0 ws ≡ None → first_untaken takes ws ≡ None
none_untaken takes row ws e = map_none _ (WeightNotTakenAt row) (sym (untaken_first takes (WeightNotTakenAt row) 0 ws) ∙ e)

-- what holds after i rows of a tile were added to a run that started at `start`
pub record Midway (start run : State) (p : Page) (ts : Tile) (i : ℕ) : Type 0 where
  pub shared : run.shared ≡ start.shared
  pub setting : setting_of run ≡ setting_of start
  pub rows : run.rows ≡ start.rows + i
  pub unit_rows : run.unit.rows ≡ start.unit.rows + i
  pub passing : rows_check start.shared start.unit.takes p i (drop i ts) ≡ None
  pub rest : fold add_row run (rows_of p i (drop i ts)) ≡ fold add_row start (rows_of p 0 ts)

module _ (start run : State) (p : Page) (ts : Tile) (i : ℕ) (m : Midway start run p ts i) where
  pub midway_all : length ts ≤ i → run ≡ fold add_row start (rows_of p 0 ts)
  midway_all h = sym (ap (λ rest. fold add_row run (rows_of p i rest)) (drop_all i ts h)) ∙ m.rest

  same_step : step_size run ≡ step_size start
  same_step = ap (λ k. step_of k run.extra) m.shared ∙ ap (λ (z : Setting). step_of start.shared z.extra) m.setting

  module _ (h : i < length ts) where
    here : drop i ts ≡ get_or ts i None ∷ drop (i + 1) ts
    here = drop_more ts i None h

    both : (row_check start.shared start.unit.takes i (get_or ts i None) (line p i) ≡ None) × (rows_check start.shared start.unit.takes p (i + 1) (drop (i + 1) ts) ≡ None)
    both = both_passed _ _ (sym (ap (rows_check start.shared start.unit.takes p i) here) ∙ m.passing)

    -- the unit takes all weights of the row at hand
    pub midway_taken : first_untaken run.unit.takes (line p i) ≡ None
    midway_taken =
        ap (λ (z : Setting). first_untaken z.takes (line p i)) m.setting
        ∙ none_untaken start.unit.takes i (line p i) (both_passed (word_check start.shared i (get_or ts i None)) _ both.0).1

    -- the row at hand has a finite word, so that cutting it and putting it adds the row
    pub midway_more : (a : Aligned) (next : State) → a ≡ aligned (step_size start) (get_or ts i None) → next ≡ put run a.number a.lost (line p i) → Midway start next p ts (i + 1)
    midway_more a next is added =
        record {
          shared = ap (λ (s : State). s.shared) added ∙ m.shared;
          setting = ap setting_of added ∙ setting_kept run a.number a.lost (line p i) ∙ m.setting;
          rows = omega (arith, ap (λ (s : State). s.rows) added, m.rows);
          unit_rows = omega (arith, ap (λ (s : State). s.unit.rows) added, m.unit_rows);
          passing = both.1;
          rest = by (get_or ts i None) is here both.0;
        }
      where
        by : (t : Option Decoded) → a ≡ aligned (step_size start) t → drop i ts ≡ t ∷ drop (i + 1) ts → row_check start.shared start.unit.takes i t (line p i) ≡ None
            → fold add_row next (rows_of p (i + 1) (drop (i + 1) ts)) ≡ fold add_row start (rows_of p 0 ts)
        by None e d ok = absurd (none_some ok refl)
        by (Some w) e d ok =
            let row : Row = record { value = value w; weights = line p i } in
            let cut_here = added ∙ ap (λ b. put run b.number b.lost (line p i)) e ∙ sym (ap (λ n. put run (cut n (value w)) (lost n (value w)) (line p i)) same_step) in
            ap (λ s. fold add_row s (rows_of p (i + 1) (drop (i + 1) ts))) cut_here
            ∙ sym (ap (λ rest. fold add_row run (rows_of p i rest)) d) ∙ m.rest
