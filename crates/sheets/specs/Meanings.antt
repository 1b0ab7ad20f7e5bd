-- What a sheet means.
use Rattle.sheets.specs.declared.any.AnyPacking.{AnyPacking}
use Rattle.sheets.specs.declared.packed.Packed.{Packed}
use Rattle.sheets.specs.declared.packing.Packing.{Ghosts}
use Rattle.sheets.specs.Any.{any_code}
use Rattle.sheets.specs.Packing.{page}
use Rattle.sheets.specs.Page.{Page}

-- the page of its rows, columns and bytes, by its packing's code
abbrev pub packed_meaning : {P : Type 0} {packs : Ghosts P} → Packed P packs → Page
packed_meaning {packs = packs} s = page (packs.code s.packing) s.extent.rows s.extent.columns.count s.bytes.now

-- a sheet of any packing
abbrev pub AnySheet : Type 0
AnySheet = Packed AnyPacking (record { code = any_code })

-- what it means
abbrev pub any_meaning : AnySheet → Page
any_meaning s = packed_meaning s
