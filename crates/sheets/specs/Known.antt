-- A sheet told apart by its packing: which it is, what it means, and where it lies.
use Rattle.std.specs.Borrow.{Bor}
use Rattle.std.specs.Prelude.{ℕ, List}
use Rattle.sheets.specs.declared.code.SheetCode.{SheetCode}
use Rattle.sheets.specs.declared.code.SheetCode.TheVariants as code
use Rattle.sheets.specs.declared.extent.Extent.{Extent}
use Rattle.sheets.specs.declared.known.KnownSheet.{KnownSheet}
use Rattle.sheets.specs.declared.known.KnownSheet.TheVariants as known
use Rattle.sheets.specs.Meanings.{packed_meaning}
use Rattle.sheets.specs.Page.{Page}

-- how it is packed
abbrev pub known_code : KnownSheet → SheetCode
known_code (known.Byte s) = code.Byte
known_code (known.Nibble s) = code.Nibble
known_code (known.Planes s) = code.Planes s.packing.count

-- what it means
abbrev pub known_meaning : KnownSheet → Page
known_meaning (known.Byte s) = packed_meaning s
known_meaning (known.Nibble s) = packed_meaning s
known_meaning (known.Planes s) = packed_meaning s

-- how many rows and columns it has
abbrev pub known_extent : KnownSheet → Extent
known_extent (known.Byte s) = s.extent
known_extent (known.Nibble s) = s.extent
known_extent (known.Planes s) = s.extent

-- the bytes that it lies in
abbrev pub known_bytes : KnownSheet → Bor (List ℕ)
known_bytes (known.Byte s) = s.bytes
known_bytes (known.Nibble s) = s.bytes
known_bytes (known.Planes s) = s.bytes
