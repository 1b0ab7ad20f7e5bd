-- A survey in tiles of 128 is a survey of all words.
use Rattle.std.proofs.Common.{◌≡◌, ℕ, suc, ◌+◌, ◌%◌, ◌≤◌, min, List, [], ◌∷◌, ◌++◌, map, length, ℤ, Some, None, Option, sym, refl, ap, ◌∙◌, add-zero, arith}
use Rattle.std.specs.Int.{int_max}
use Rattle.std.proofs.lemmas.List.{length-append, length-map, map-append}
use Rattle.refusals.specs.declared.Refusal.{Refusal}
use Rattle.refusals.specs.declared.Refusal.TheVariants.{NotFinite}
use Rattle.refusals.proofs.Refusing.{none_some}
use Rattle.formats.specs.Coding.{Decoded}
use Rattle.alignment.specs.Tile.{Tile, not_finite, survey_check, largest}
use Rattle.alignment.proofs.Surveying.{few_enough}
use Rattle.jobs.specs.Survey.{tiles_check}

-- the rows of the next tile are counted from 0 again
next_tile : (row : ℕ) (ts : Tile) → tiles_check (row + 128) ts ≡ tiles_check row ts
next_tile row [] = refl
next_tile row (None ∷ ts) = ap (λ r. Some (NotFinite r)) (omega arith)
next_tile row (Some d ∷ ts) =
    let same : row + 128 + 1 ≡ row + 1 + 128 = omega arith in
    ap (λ r. tiles_check r ts) same ∙ next_tile (row + 1) ts

-- all words of a tile are finite
passed_by : (row : ℕ) (tile more : Tile) → row + length tile ≤ 128 → not_finite row tile ≡ None → tiles_check row (tile ++ more) ≡ tiles_check (row + length tile) more
passed_by row [] more h e = ap (λ r. tiles_check r more) (sym (add-zero row))
passed_by row (None ∷ tile) more h e = absurd (none_some e refl)
passed_by row (Some d ∷ tile) more h e =
    let same : row + 1 + length tile ≡ row + suc (length tile) = omega arith in
    passed_by (row + 1) tile more (omega arith) e ∙ ap (λ r. tiles_check r more) same

-- one of them is not
tile_faulty : (row : ℕ) (tile more : Tile) (r : Refusal) → row + length tile ≤ 128 → not_finite row tile ≡ Some r → tiles_check row (tile ++ more) ≡ Some r
tile_faulty row [] more r h e = absurd (none_some refl e)
tile_faulty row (None ∷ tile) more r h e =
    let in_tile : row % 128 ≡ row = omega arith in
    ap (λ k. Some (NotFinite k)) in_tile ∙ e
tile_faulty row (Some d ∷ tile) more r h e = tile_faulty (row + 1) tile more r (omega arith) e

-- a full tile, or the last one
tile_passed : (tile more : Tile) → length tile ≡ min 128 (length (tile ++ more)) → not_finite 0 tile ≡ None → tiles_check 0 (tile ++ more) ≡ tiles_check 0 more
tile_passed tile [] size e = passed_by 0 tile [] (omega arith) e
tile_passed tile (t ∷ more) size e =
    let full : 0 + length tile ≡ 0 + 128 = omega (arith, length-append tile (t ∷ more)) in
    passed_by 0 tile (t ∷ more) (omega arith) e ∙ ap (λ r. tiles_check r (t ∷ more)) full ∙ next_tile 0 (t ∷ more)

-- the largest exponent of a tile first, and then of the rest
pub largest_append : (m : ℤ) (tile more : Tile) → largest m (tile ++ more) ≡ largest (largest m tile) more
largest_append m [] more = refl
largest_append m (None ∷ tile) more = largest_append m tile more
largest_append m (Some d ∷ tile) more = largest_append (int_max m d.2) tile more

-- ---- the words of the next tile, and those behind it
module _ {W : Type 0} (f : W → Option Decoded) (rest tile more : List W) (size : ℕ) (parts : rest ≡ tile ++ more) (long : length tile ≡ min size (length rest)) (full : size ≡ 128) where
  joined : map f rest ≡ map f tile ++ map f more
  joined = ap (map f) parts ∙ map-append f tile more

  few : length tile ≤ 128
  few = omega arith

  as_long : length (map f tile) ≡ min 128 (length (map f tile ++ map f more))
  as_long = rw (length-append, length-map, length-map) (omega (arith, ap length parts, length-append tile more))

  finite : {o : Option Refusal} → survey_check (map f tile) ≡ o → not_finite 0 (map f tile) ≡ o
  finite e = sym (few_enough f tile (not_finite 0 (map f tile)) few) ∙ e

  pub next_passed : survey_check (map f tile) ≡ None → tiles_check 0 (map f rest) ≡ tiles_check 0 (map f more)
  next_passed e = ap (tiles_check 0) joined ∙ tile_passed (map f tile) (map f more) as_long (finite e)

  pub next_faulty : (r : Refusal) → survey_check (map f tile) ≡ Some r → tiles_check 0 (map f rest) ≡ Some r
  next_faulty r e = ap (tiles_check 0) joined ∙ tile_faulty 0 (map f tile) (map f more) r (rw length-map (omega arith)) (finite e)

  pub next_largest : (m : ℤ) → largest m (map f rest) ≡ largest (largest m (map f tile)) (map f more)
  next_largest m = ap (largest m) joined ∙ largest_append m (map f tile) (map f more)
