-- The checks of a tile, row by row.
use Rattle.std.proofs.Common.{◌≡◌, ℕ, ◌+◌, ◌<◌, ◌≤◌, Bool, List, [], ◌∷◌, map, length, get_or, drop, ℤ, Some, None, Option, sym, refl, ap, ◌∙◌, arith}
use Rattle.std.proofs.lemmas.Bool.{ltb-false, eqb-true, not-false}
use Rattle.std.proofs.lemmas.Bool.Decides.{nat_tests}
use Rattle.std.specs.Option.{option_map}
use Rattle.refusals.specs.declared.Refusal.{Refusal}
use Rattle.refusals.specs.declared.Refusal.TheVariants.{TooManyWords, RowLimit, WeightNotTakenAt, WordCount, ColumnsDiffer}
use Rattle.refusals.specs.Refusing.{refuse, first}
use Rattle.refusals.proofs.Refusing.{first_passes, both_passed, passed}
use Rattle.formats.specs.Coding.{Decoded}
use Rattle.alignment.specs.Tile.{Tile}
use Rattle.alignment.specs.Cutting.{word_check, words_check, cut_check}
use Rattle.alignment.proofs.Surveying.{tile_at}
use Rattle.sheets.specs.Page.{Page, line}
use Rattle.units.specs.Meaning.{untaken, first_untaken}
use Rattle.units.proofs.Checks.{untaken_first}
use Rattle.runs.specs.Checks.{Setting, row_check, rows_check, feed_check}

-- ---- a row
-- its word passes, so the first column whose weight is not taken decides
pub column_decides : (shared : ℤ) (takes : ℤ → Bool) (row : ℕ) (word : Option Decoded) (ws : List ℤ) (column : Option ℕ) → word_check shared row word ≡ None → column ≡ first_untaken takes ws → row_check shared takes row word ws ≡ option_map (WeightNotTakenAt row) column
column_decides shared takes row word ws column ok e =
    first_passes _ ok ∙ untaken_first takes (WeightNotTakenAt row) 0 ws ∙ ap (option_map (WeightNotTakenAt row)) (sym e)

-- ---- the rows of a loop
module _ {W : Type 0} (f : W → Option Decoded) (ws : List W) (i : ℕ) (w : W) (h : i < length ws) (at : w ≡ get_or ws i w) (shared : ℤ) (takes : ℤ → Bool) (p : Page) where
  rows_at : rows_check shared takes p i (drop i (map f ws)) ≡ first (row_check shared takes i (f w) (line p i)) (rows_check shared takes p (i + 1) (drop (i + 1) (map f ws)))
  rows_at = ap (rows_check shared takes p i) (tile_at f ws i w h at)

  pub rows_more : row_check shared takes i (f w) (line p i) ≡ None → rows_check shared takes p i (drop i (map f ws)) ≡ rows_check shared takes p (i + 1) (drop (i + 1) (map f ws))
  rows_more e = rows_at ∙ ap (λ o. first o (rows_check shared takes p (i + 1) (drop (i + 1) (map f ws)))) e

  pub rows_here : (r : Refusal) → row_check shared takes i (f w) (line p i) ≡ Some r → rows_check shared takes p i (drop i (map f ws)) ≡ Some r
  rows_here r e = rows_at ∙ ap (λ o. first o (rows_check shared takes p (i + 1) (drop (i + 1) (map f ws)))) e

-- ---- where all rows pass, all words do
pub words_pass : (shared : ℤ) (takes : ℤ → Bool) (p : Page) (i : ℕ) (ts : Tile) → rows_check shared takes p i ts ≡ None → words_check shared i ts ≡ None
words_pass shared takes p i [] e = refl
words_pass shared takes p i (t ∷ ts) e =
    let here = both_passed (row_check shared takes i t (line p i)) (rows_check shared takes p (i + 1) ts) e in
    let word = both_passed (word_check shared i t) (untaken takes (WeightNotTakenAt i) 0 (line p i)) here.0 in
    ap (λ o. first o (words_check shared (i + 1) ts)) word.0 ∙ words_pass shared takes p (i + 1) ts here.1

-- ---- a tile that passes
pub record Passing (z : Setting) (shared : ℤ) (rows : ℕ) (ts : Tile) (p : Page) : Type 0 where
  pub as_many : length ts ≡ p.rows
  pub as_wide : p.columns ≡ z.columns
  pub room : rows + length ts ≤ z.limit
  pub each : rows_check shared z.takes p 0 ts ≡ None
  pub cuttable : cut_check shared ts ≡ None

pub passes : (z : Setting) (shared : ℤ) (rows : ℕ) (ts : Tile) (p : Page) → feed_check z shared rows ts p ≡ None → Passing z shared rows ts p
passes z shared rows ts p h =
    let a = passed _ TooManyWords _ h in
    let b = passed _ WordCount _ a.1 in
    let c = passed _ ColumnsDiffer _ b.1 in
    let d = passed _ RowLimit _ c.1 in
    record {
      as_many = eqb-true (length ts) p.rows (not-false _ b.0);
      as_wide = eqb-true p.columns z.columns (not-false _ c.0);
      room = ltb-false z.limit (rows + length ts) d.0;
      each = d.1;
      cuttable = ap (λ b. first (refuse b TooManyWords) (words_check shared 0 ts)) a.0 ∙ words_pass shared z.takes p 0 ts d.1;
    }

-- ---- a tile's checks before those of its rows
module _ (z : Setting) (shared : ℤ) (rows : ℕ) (ts : Tile) (p : Page) where
  pub feed_many : 128 < length ts → feed_check z shared rows ts p ≡ Some TooManyWords
  feed_many many = grind (arith, nat_tests)

  pub feed_words : length ts ≤ 128 → (length ts ≡ p.rows → ⊥) → feed_check z shared rows ts p ≡ Some WordCount
  feed_words few other = grind (arith, nat_tests)

  pub feed_columns : length ts ≤ 128 → length ts ≡ p.rows → (p.columns ≡ z.columns → ⊥) → feed_check z shared rows ts p ≡ Some ColumnsDiffer
  feed_columns few same other = grind (arith, nat_tests)

  pub feed_over : length ts ≤ 128 → length ts ≡ p.rows → p.columns ≡ z.columns → z.limit < rows + length ts → feed_check z shared rows ts p ≡ Some RowLimit
  feed_over few same wide over = grind (arith, nat_tests)

  pub feed_in_rows : length ts ≤ 128 → length ts ≡ p.rows → p.columns ≡ z.columns → rows + length ts ≤ z.limit → feed_check z shared rows ts p ≡ rows_check shared z.takes p 0 ts
  feed_in_rows few same wide room = grind (arith, nat_tests)
