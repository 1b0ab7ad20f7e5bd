-- Why a sheet cannot be made, in the order of the checks.
use Rattle.std.specs.Prelude.{ℕ, ◌*◌, not, ◌||◌, None, Option, ◌==◌, nat_lt}
use Rattle.refusals.specs.declared.Refusal.{Refusal}
use Rattle.refusals.specs.declared.Refusal.TheVariants.{TooManyRows, PlaneCount, ByteLength}
use Rattle.columns.specs.Columns.{columns_check}
use Rattle.refusals.specs.Refusing.{refuse, first}
use Rattle.sheets.specs.declared.code.SheetCode.{SheetCode}
use Rattle.sheets.specs.declared.code.SheetCode.TheVariants.{Byte, Nibble, Planes}
use Rattle.sheets.specs.Code.{byte_length}

-- at most 128 rows, and then 1 to 16 columns
abbrev pub extent_check : ℕ → ℕ → Option Refusal
extent_check rows columns = first (refuse (nat_lt 128 rows) TooManyRows) (columns_check columns)

-- 1 to 8 planes, where there are planes
abbrev pub planes_check : SheetCode → Option Refusal
planes_check Byte = None
planes_check Nibble = None
planes_check (Planes planes) = refuse (planes == 0 || nat_lt 8 planes) PlaneCount

-- as many bytes as the places take
abbrev pub length_check : SheetCode → ℕ → ℕ → Option Refusal
length_check code places given = refuse (not (given == byte_length code places)) ByteLength

-- all that making a sheet of so many bytes checks
abbrev pub making_check : SheetCode → ℕ → ℕ → ℕ → Option Refusal
making_check code rows columns given = first (extent_check rows columns) (first (planes_check code) (length_check code (rows * columns) given))
