-- A tile of words, as they decode: what refuses its survey, and its largest exponent.
use Rattle.std.specs.Prelude.{◌≡◌, ℕ, ◌+◌, ◌⊎◌, List, [], ◌∷◌, map, length, Contains, ℤ, ◌≤ℤ◌, IfSome, Some, None, Option, nat_lt}
use Rattle.std.specs.Int.{int_max}
use Rattle.std.specs.List.{AllByRecursion}
use Rattle.refusals.specs.declared.Refusal.{Refusal}
use Rattle.refusals.specs.declared.Refusal.TheVariants.{ExtraBits, TooManyWords, NotFinite}
use Rattle.refusals.specs.Refusing.{refuse, first}
use Rattle.formats.specs.Coding.{Decoded, Coding}

-- a tile, its words decoded: nothing where a word is not finite
abbrev pub Tile : Type 0
Tile = List (Option Decoded)

-- the tile of a format's words
abbrev pub tile_of : {W : Type 0} → Coding W → List W → Tile
tile_of f ws = map f.decode ws

-- there are at most 12 extra bits
abbrev pub extra_check : ℕ → Option Refusal
extra_check bits = refuse (nat_lt 12 bits) ExtraBits

-- a tile has at most 128 words
abbrev pub length_check : Tile → Option Refusal
length_check ts = refuse (nat_lt 128 (length ts)) TooManyWords

-- the first word that is not finite, the rows being counted on from `row`
abbrev pub not_finite : ℕ → Tile → Option Refusal
not_finite row [] = None
not_finite row (None ∷ ts) = Some (NotFinite row)
not_finite row (Some d ∷ ts) = not_finite (row + 1) ts

-- the checks of a survey
abbrev pub survey_check : Tile → Option Refusal
survey_check ts = first (length_check ts) (not_finite 0 ts)

-- the larger of m and every exponent in the tile
abbrev pub largest : ℤ → Tile → ℤ
largest m [] = m
largest m (None ∷ ts) = largest m ts
largest m (Some d ∷ ts) = largest (int_max m d.2) ts

-- what that says: neither m nor any exponent in the tile is above it, and it is one of them
pub record Largest (m : ℤ) (ts : Tile) (top : ℤ) : Type 0 where
  pub from : m ≤ℤ top
  pub above : AllByRecursion (λ t. IfSome t (λ d. d.2 ≤ℤ top)) ts
  pub reached : (top ≡ m) ⊎ ((d : Decoded) × (Contains ts (Some d) × (d.2 ≡ top)))
