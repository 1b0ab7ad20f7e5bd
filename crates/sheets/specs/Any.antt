-- A packing that is known only when the program runs.
use Rattle.sheets.specs.declared.any.AnyPacking.{AnyPacking}
use Rattle.sheets.specs.declared.any.AnyPacking.TheVariants as any
use Rattle.sheets.specs.declared.code.SheetCode.{SheetCode}
use Rattle.sheets.specs.declared.code.SheetCode.TheVariants.{Byte, Nibble, Planes}

-- which of the packings it is
abbrev pub any_code : AnyPacking → SheetCode
any_code (any.Byte p) = Byte
any_code (any.Nibble p) = Nibble
any_code (any.Planes p) = Planes p.count
