-- What the bits of a place say of its weight, for every packing.
use Rattle.std.specs.Prelude.{◌≡◌, ℕ, zero, suc, ◌+◌, ◌*◌, ◌%◌, ◌^◌, ◌<◌, List, ℤ, pos, ◌+ℤ◌, neg_ℤ, ◌≤ℤ◌, slice_index, unsigned_abs}
use Rattle.sheets.specs.declared.code.SheetCode.{SheetCode}
use Rattle.sheets.specs.declared.code.SheetCode.TheVariants.{Byte, Nibble, Planes}
use Rattle.sheets.specs.Code.{plane_length}
use Rattle.sheets.specs.Packing.{nibble_at, bit_at, weight_at, page}
use Rattle.sheets.specs.Page.{Page}

-- the number that the bits of place k write in the first planes, the lowest bit in plane 0
abbrev pub plane_code : List ℕ → ℕ → ℕ → ℕ → ℕ
plane_code bytes stride k zero = 0
plane_code bytes stride k (suc j) = plane_code bytes stride k j + bit_at bytes stride k j * 2 ^ j

-- the number that the bits of place k write
abbrev pub code_at : SheetCode → ℕ → List ℕ → ℕ → ℕ
code_at Byte places bytes k = slice_index bytes k
code_at Nibble places bytes k = nibble_at bytes k
code_at (Planes planes) places bytes k = plane_code bytes (plane_length places) k planes

-- two's complement, where the highest bit counts for half: as many weights below 0 as not, and modulo 2 * half each is its code
pub record TwosComplement (half code : ℕ) (weight : ℤ) : Type 0 where
  pub least : neg_ℤ (pos half) ≤ℤ weight
  pub below : (weight +ℤ pos 1) ≤ℤ pos half
  pub same : unsigned_abs (weight +ℤ pos (2 * half)) % (2 * half) ≡ code

-- the weight that a code stands for: planes have the odd weights from 1 - 2 ^ planes up
abbrev pub StandsFor : SheetCode → ℕ → ℤ → Type 0
StandsFor Byte code weight = TwosComplement 128 code weight
StandsFor Nibble code weight = TwosComplement 8 code weight
StandsFor (Planes planes) code weight = weight +ℤ pos (2 ^ planes) ≡ pos (2 * code + 1)

-- every weight is the one that the bits of its place stand for
abbrev pub CodesStandForWeights : Type 0
CodesStandForWeights =
    (packing : SheetCode) (places : ℕ) (bytes : List ℕ) → ((i : ℕ) → slice_index bytes i < 256) →
    (k : ℕ) → StandsFor packing (code_at packing places bytes k) (weight_at packing places bytes k)

-- two pages with the same weight at each of their places
pub record SamePage (m n : Page) : Type 0 where
  pub rows : m.rows ≡ n.rows
  pub columns : m.columns ≡ n.columns
  pub weights : (row column : ℕ) → row < m.rows → column < m.columns → m.weight row column ≡ n.weight row column

-- only the bits of the places are read: not the last half byte of an odd number of nibbles, nor the bits that fill up a plane
abbrev pub SpareBitsUnread : Type 0
SpareBitsUnread =
    (packing : SheetCode) (rows columns : ℕ) (bytes others : List ℕ) →
    ((k : ℕ) → k < rows * columns → code_at packing (rows * columns) bytes k ≡ code_at packing (rows * columns) others k) →
    SamePage (page packing rows columns bytes) (page packing rows columns others)
