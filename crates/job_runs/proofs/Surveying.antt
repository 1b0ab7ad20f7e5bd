-- After the surveys of all tiles, the shared exponent is the largest of all words.
use Rattle.std.proofs.Common.{◌≡◌, ℕ, zero, suc, ◌+◌, ◌*◌, ◌≤◌, min, List, [], ◌∷◌, ◌++◌, map, length, take, drop, ℤ, None, sym, ap, ◌∙◌, arith}
use Rattle.std.specs.List.{range_with_len}
use Rattle.std.proofs.lemmas.List.{take-append-drop, drop-drop, drop_all, length-append, length-take}
use Rattle.refusals.specs.Refusing.{unless}
use Rattle.alignment.specs.Tile.{Tile, survey_check, largest}
use Rattle.runs.specs.Log.{Log, after, raised}
use Rattle.calls.specs.Lists.{answers_to, log_after}
use Rattle.jobs.proofs.Tiles.{largest_append}
use Rattle.job_runs.specs.Parts.{tile_at}
use Rattle.job_runs.specs.Events.{survey_of}
use Rattle.job_runs.specs.Readings.{first_refusal}
use Rattle.job_runs.proofs.Answering.{none_cons}

-- ---- the words from a tile on
pub words_left : {A : Type 0} (tile : ℕ) (words : List A) → take 128 (drop (tile * 128) words) ++ drop ((tile + 1) * 128) words ≡ drop (tile * 128) words
words_left tile words =
    let next : tile * 128 + 128 ≡ (tile + 1) * 128 = omega arith in
    ap (λ n. take 128 (drop (tile * 128) words) ++ drop n words) (sym next)
    ∙ ap (λ rest. take 128 (drop (tile * 128) words) ++ rest) (sym (drop-drop 128 (tile * 128) words))
    ∙ take-append-drop 128 (drop (tile * 128) words)

-- a tile is full, or no words are behind it
pub full_or_last : (words : Tile) (tile : ℕ) → length (tile_at words tile) ≡ min 128 (length (tile_at words tile ++ drop ((tile + 1) * 128) words))
full_or_last words tile = length-take 128 (drop (tile * 128) words) ∙ ap (λ ws. min 128 (length ws)) (sym (words_left tile words))

-- what goes through the words row by row goes on behind such a tile as after 128 rows
pub seam : {X : Type 0} (f : ℕ → Tile → X) → ((a b : ℕ) → f a [] ≡ f b []) → (row : ℕ) (tile more : Tile) → length tile ≡ min 128 (length (tile ++ more)) → f (row + length tile) more ≡ f (row + 128) more
seam f nil row tile [] size = nil (row + length tile) (row + 128)
seam f nil row tile (word ∷ more) size =
    let full : row + length tile ≡ row + 128 = omega (arith, length-append tile (word ∷ more)) in
    ap (λ r. f r (word ∷ more)) full

-- surveys of the tiles that are left raise the shared exponent by the words that are left
pub all_surveyed : (l : Log) (words : Tile) (tile count : ℕ) → length words ≤ (tile + count) * 128
    → first_refusal (answers_to l (map (survey_of words) (range_with_len tile count))) ≡ None
    → log_after l (map (survey_of words) (range_with_len tile count)) ≡ raised l (drop (tile * 128) words)
all_surveyed l words tile zero h e = ap (raised l) (sym (drop_all (tile * 128) words (omega arith)))
all_surveyed l words tile (suc count) h e =
    let ok = none_cons (survey_check (tile_at words tile)) None _ e in
    let now = ap (λ o. unless o l (raised l (tile_at words tile))) ok.0 in
    let rest = all_surveyed (after l (survey_of words tile)) words (tile + 1) count (omega arith) ok.1 in
    rest
    ∙ ap (λ m. raised m (drop ((tile + 1) * 128) words)) now
    ∙ ap (λ (z : ℤ). record { setting = l.setting; aligned = l.aligned; shared = z; fed = l.fed }) (sym (largest_append l.shared (tile_at words tile) (drop ((tile + 1) * 128) words)) ∙ ap (largest l.shared) (words_left tile words))
