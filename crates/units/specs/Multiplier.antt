-- What the multiplier unit means.
use Rattle.std.specs.Prelude.{ℕ, Bool, replicate, ℤ, pos, nat_le, unsigned_abs}
use Rattle.units.specs.declared.multiply.Multiplier.{Multiplier}
use Rattle.units.specs.Meaning.{Meaning}

-- the weights of -255 to 255
abbrev pub takes_every : ℤ → Bool
takes_every w = nat_le (unsigned_abs w) 255

-- room for 128 rows, and for each column its sum as the total
abbrev pub multiplier : Multiplier → Meaning
multiplier u = record { rows = u.rows; limit = 128; totals = u.sums.items; takes = takes_every }

-- a new multiplier
abbrev pub fresh_multiplier : ℕ → Meaning
fresh_multiplier columns = record { rows = 0; limit = 128; totals = replicate columns (pos 0); takes = takes_every }
