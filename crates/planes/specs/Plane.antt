-- What the plane unit means.
use Rattle.std.specs.Prelude.{ℕ, map, replicate, pos}
use Rattle.units.specs.Meaning.{Meaning}
use Rattle.planes.specs.declared.Plane.{Plane}
use Rattle.planes.specs.Columns.{takes_odd, weigh}

-- room for 64 rows, odd weights taken, and for each column the total that its eight sums weigh
abbrev pub plane : Plane → Meaning
plane u = record { rows = u.rows; limit = 64; totals = map weigh u.sums.items; takes = takes_odd }

-- a new plane unit
abbrev pub fresh_plane : ℕ → Meaning
fresh_plane columns = record { rows = 0; limit = 64; totals = replicate columns (pos 0); takes = takes_odd }
