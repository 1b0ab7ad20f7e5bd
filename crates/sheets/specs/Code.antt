-- The numbers that packings are known by, and the bytes that they take.
use Rattle.std.specs.Prelude.{ℕ, ◌+◌, ◌*◌, ◌/◌, ◌≤◌, cond, List, [], ◌∷◌, Some, None, Ok, Err, Option, Result, ◌==◌}
use Rattle.refusals.specs.declared.Refusal.{Refusal}
use Rattle.refusals.specs.declared.Refusal.TheVariants.{UnknownCode}
use Rattle.sheets.specs.declared.code.SheetCode.{SheetCode}
use Rattle.sheets.specs.declared.code.SheetCode.TheVariants.{Byte, Nibble, Planes}

-- which of the codes has a number
abbrev pub coded : {C : Type 0} → (C → ℕ) → List C → ℕ → Option C
coded number [] n = None
coded number (c ∷ cs) n = cond (n == number c) (Some c) (coded number cs n)

-- a number that stands for nothing is an unknown code
abbrev pub known : {C : Type 0} → Option C → Result C Refusal
known None = Err UnknownCode
known (Some c) = Ok c

-- the number of a packing
abbrev pub sheet_number : SheetCode → ℕ
sheet_number Byte = 1
sheet_number Nibble = 2
sheet_number (Planes planes) = 10 + planes

-- the packings that have a number
abbrev pub sheet_codes : List SheetCode
sheet_codes = Byte ∷ Nibble ∷ Planes 1 ∷ Planes 2 ∷ Planes 3 ∷ Planes 4 ∷ Planes 5 ∷ Planes 6 ∷ Planes 7 ∷ Planes 8 ∷ []

-- the bytes of one plane: a bit for each place
abbrev pub plane_length : ℕ → ℕ
plane_length places = (places + 7) / 8

-- the bytes of a sheet with so many places
abbrev pub byte_length : SheetCode → ℕ → ℕ
byte_length Byte places = places
byte_length Nibble places = (places + 1) / 2
byte_length (Planes planes) places = planes * plane_length places

-- at most 8 planes, where there are planes
abbrev pub FewPlanes : SheetCode → Type 0
FewPlanes Byte = Unit {0}
FewPlanes Nibble = Unit {0}
FewPlanes (Planes planes) = planes ≤ 8
