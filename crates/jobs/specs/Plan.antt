-- What a trailer asks for, and why it may be refused.
use Rattle.std.specs.Prelude.{ℕ, ◌+◌, ◌*◌, ◌/◌, ◌%◌, Bool, not, ◌||◌, is_some, Some, Option, ◌==◌, nat_lt}
use Rattle.std.specs.Option.{option_and_then}
use Rattle.refusals.specs.declared.Refusal.{Refusal}
use Rattle.refusals.specs.declared.Refusal.TheVariants.{UnknownCode}
use Rattle.columns.specs.Columns.{columns_check}
use Rattle.refusals.specs.Refusing.{refuse, first}
use Rattle.alignment.specs.Tile.{extra_check}
use Rattle.sheets.specs.Code.{coded, sheet_codes, sheet_number, byte_length}
use Rattle.jobs.specs.declared.plan.Plan.{Plan}
use Rattle.jobs.specs.declared.trailer.Trailer.{Trailer}
use Rattle.jobs.specs.Codes.{format_codes, format_number, unit_codes, unit_number, word_bytes}

-- the plan of a trailer, if each of its codes is known
abbrev pub plan_of : Trailer → Option Plan
plan_of t =
    option_and_then (λ format. option_and_then (λ sheet. option_and_then (λ unit.
    Some (record { rows = t.rows; columns = t.columns; format = format; sheet = sheet; extra = t.extra; unit = unit }))
    (coded unit_number unit_codes t.unit)) (coded sheet_number sheet_codes t.sheet)) (coded format_number format_codes t.format)

-- the mark is not that of a job, a code is unknown, or there are over 4,096 rows
abbrev pub unknown : Trailer → Bool
unknown t = not (t.mark == 0x54) || not (is_some (plan_of t)) || nat_lt 4096 t.rows

-- the checks of a trailer
abbrev pub plan_check : Trailer → Option Refusal
plan_check t =
    first (refuse (unknown t) UnknownCode)
    (first (columns_check t.columns)
    (extra_check t.extra))

-- a word for each row
abbrev pub activation_bytes : Plan → ℕ
activation_bytes p = p.rows * word_bytes p.format

-- the bytes of a sheet of so many rows
abbrev pub sheet_bytes : Plan → ℕ → ℕ
sheet_bytes p rows = byte_length p.sheet (rows * p.columns)

-- a sheet for each 128 rows, and a shorter one for the rest
abbrev pub weight_bytes : Plan → ℕ
weight_bytes p = p.rows / 128 * sheet_bytes p 128 + sheet_bytes p (p.rows % 128)
