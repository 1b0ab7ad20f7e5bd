-- A tile cut row by row.
use Rattle.std.proofs.Common.{◌≡◌, ℕ, ◌+◌, ◌^◌, ◌<◌, List, [], ◌∷◌, ◌++◌, map, length, get_or, take, drop, All, ℤ, Some, None, Option, sym, ap, ◌∙◌, arith, pow_mono}
use Rattle.std.proofs.lemmas.List.{get_or-map, length-map, map_more}
use Rattle.std.proofs.lemmas.List.Elements.{All-push}
use Rattle.std.proofs.lemmas.Option.{MatchOption-at_some}
use Rattle.refusals.specs.declared.Refusal.{Refusal}
use Rattle.refusals.specs.Refusing.{first}
use Rattle.formats.specs.Coding.{Decoded, Coding, Shaped, Lawful}
use Rattle.alignment.specs.Cutting.{step_size, word_check, words_check, aligned, Small}
use Rattle.alignment.specs.declared.checked.Step.{Step}
use Rattle.alignment.specs.declared.cutting.Aligned.{Aligned}
use Rattle.alignment.proofs.Surveying.{tile_at}

-- ---- the checks
module _ {W : Type 0} (f : W → Option Decoded) (ws : List W) (i : ℕ) (w : W) (h : i < length ws) (at : w ≡ get_or ws i w) (shared : ℤ) where
  rows_at : words_check shared i (drop i (map f ws)) ≡ first (word_check shared i (f w)) (words_check shared (i + 1) (drop (i + 1) (map f ws)))
  rows_at = ap (words_check shared i) (tile_at f ws i w h at)

  pub row_passed : word_check shared i (f w) ≡ None → words_check shared i (drop i (map f ws)) ≡ words_check shared (i + 1) (drop (i + 1) (map f ws))
  row_passed e = rows_at ∙ ap (λ o. first o (words_check shared (i + 1) (drop (i + 1) (map f ws)))) e

  pub row_faulty : {e : Refusal} → word_check shared i (f w) ≡ Some e → words_check shared i (drop i (map f ws)) ≡ Some e
  row_faulty e = rows_at ∙ ap (λ o. first o (words_check shared (i + 1) (drop (i + 1) (map f ws)))) e

-- a finite word of a lawful format has at most 24 bits
pub short : {W : Type 0} (f : Coding W) → Lawful f → (w : W) (d : Decoded) → f.decode w ≡ Some d → d.1 < 2 ^ 24
short f law w d is = omega (arith, (MatchOption-at_some (Unit {0}) (Shaped f) d is (law.shaped w)).significand, pow_mono law.few_bits)

-- ---- the rows up to i are cut
-- the words that are left decide, and those before them are cut, to small numbers
pub record CutTo {W : Type 0} (step : Step) (f : W → Option Decoded) (ws : List W) (i : ℕ) (cuts : List Aligned) : Type 0 where
  pub left : words_check step.shared.exponent 0 (map f ws) ≡ words_check step.shared.exponent i (drop i (map f ws))
  pub cut : cuts ≡ map (aligned (step_size step)) (take i (map f ws))
  pub small : All Small cuts

module _ {W : Type 0} (step : Step) (f : W → Option Decoded) (ws : List W) (i : ℕ) (cuts : List Aligned) (so_far : CutTo step f ws i cuts) where
  pub cut_more : (w : W) (a : Aligned) → i < length ws → w ≡ get_or ws i w → word_check step.shared.exponent i (f w) ≡ None → a ≡ aligned (step_size step) (f w) → Small a
      → CutTo step f ws (i + 1) (cuts ++ a ∷ [])
  cut_more w a here read passed is tiny = record {
    left = so_far.left ∙ row_passed f ws i w here read step.shared.exponent passed;
    cut =
        ap (λ xs. xs ++ a ∷ []) so_far.cut
        ∙ ap (λ x. map (aligned (step_size step)) (take i (map f ws)) ++ x ∷ []) (is ∙ ap (aligned (step_size step)) (ap f read ∙ sym (get_or-map f ws i w (f w) here)))
        ∙ sym (map_more (aligned (step_size step)) (map f ws) i (f w) (rw length-map here));
    small = All-push Small cuts a so_far.small tiny;
  }
