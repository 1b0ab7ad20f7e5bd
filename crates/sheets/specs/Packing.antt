-- How a sheet lays its weights into bytes. Place k is row * columns + column.
use Rattle.std.specs.Prelude.{ℕ, zero, suc, ◌+◌, ◌-◌, ◌*◌, ◌/◌, ◌%◌, ◌^◌, cond, List, ℤ, pos, ◌+ℤ◌, neg_ℤ, ◌==◌, nat_lt, slice_index}
use Rattle.sheets.specs.declared.code.SheetCode.{SheetCode}
use Rattle.sheets.specs.declared.code.SheetCode.TheVariants.{Byte, Nibble, Planes}
use Rattle.sheets.specs.Code.{plane_length}
use Rattle.sheets.specs.Page.{Page}

-- a code below 2 * half in two's complement, where half is what its highest bit counts for
abbrev pub signed : ℕ → ℕ → ℤ
signed half code = cond (nat_lt code half) (pos code) (neg_ℤ (pos (2 * half - code)))

-- the four bits of a byte that place k has: the lower ones where k is even
abbrev pub nibble : ℕ → ℕ → ℕ
nibble byte k = cond (k % 2 == 0) (byte % 16) (byte / 16 % 16)

-- the four bits of place k
abbrev pub nibble_at : List ℕ → ℕ → ℕ
nibble_at bytes k = nibble (slice_index bytes (k / 2)) k

-- a bit of a byte, the lowest being bit 0
abbrev pub bit : ℕ → ℕ → ℕ
bit byte i = byte / 2 ^ i % 2

-- the bit of place k in plane j, where a plane has so many bytes
abbrev pub bit_at : List ℕ → ℕ → ℕ → ℕ → ℕ
bit_at bytes stride k j = bit (slice_index bytes (j * stride + k / 8)) (k % 8)

-- what a bit of plane j counts for: 2 ^ j for a 1, and -2 ^ j for a 0
abbrev pub plane_term : ℕ → ℕ → ℤ
plane_term b j = cond (b == 0) (neg_ℤ (pos (2 ^ j))) (pos (2 ^ j))

-- what the bits of place k count for in the first planes
abbrev pub plane_sum : List ℕ → ℕ → ℕ → ℕ → ℤ
plane_sum bytes stride k zero = pos 0
plane_sum bytes stride k (suc j) = plane_sum bytes stride k j +ℤ plane_term (bit_at bytes stride k j) j

-- the weight of place k of so many places
abbrev pub weight_at : SheetCode → ℕ → List ℕ → ℕ → ℤ
weight_at Byte places bytes k = signed 128 (slice_index bytes k)
weight_at Nibble places bytes k = signed 8 (nibble_at bytes k)
weight_at (Planes planes) places bytes k = plane_sum bytes (plane_length places) k planes

-- what the bytes of a sheet with so many rows and columns mean
abbrev pub page : SheetCode → ℕ → ℕ → List ℕ → Page
page code rows columns bytes = record { rows = rows; columns = columns; weight = λ row column. weight_at code (rows * columns) bytes (row * columns + column) }
