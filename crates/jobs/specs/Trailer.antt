-- The trailer of a file, field by field.
use Rattle.std.specs.Prelude.{ℕ, ◌-◌, ◌||◌, List, length, take, drop, Option, nat_lt}
use Rattle.refusals.specs.declared.Refusal.{Refusal}
use Rattle.refusals.specs.declared.Refusal.TheVariants.{FileLength}
use Rattle.refusals.specs.Refusing.{refuse}
use Rattle.jobs.specs.Words.{little}
use Rattle.jobs.specs.declared.trailer.Trailer.{Trailer}

-- a file is neither too short for a trailer nor over 65,536 bytes long
abbrev pub file_check : ℕ → Option Refusal
file_check bytes = refuse (nat_lt bytes 16 || nat_lt 65536 bytes) FileLength

-- the number in so many bytes at a place of the last 16
abbrev pub trailer_field : List ℕ → ℕ → ℕ → ℕ
trailer_field file place width = little (take width (drop place (drop (length file - 16) file)))

-- all the fields
abbrev pub trailer_of : List ℕ → Trailer
trailer_of file = record {
  activations = trailer_field file 0 4;
  weights = trailer_field file 4 4;
  rows = trailer_field file 8 2;
  columns = trailer_field file 10 1;
  format = trailer_field file 11 1;
  sheet = trailer_field file 12 1;
  extra = trailer_field file 13 1;
  unit = trailer_field file 14 1;
  mark = trailer_field file 15 1;
}
