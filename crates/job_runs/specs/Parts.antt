-- The parts of a job: how its run is opened, and its tiles of 128 rows with their sheets.
use Rattle.std.specs.Prelude.{◌≡◌, ℕ, ◌+◌, ◌-◌, ◌*◌, ◌/◌, min, Bool, List, take, drop, ℤ, None}
use Rattle.columns.specs.Columns.{columns_check}
use Rattle.alignment.specs.Tile.{Tile, extra_check}
use Rattle.sheets.specs.Making.{planes_check}
use Rattle.sheets.specs.Packing.{page}
use Rattle.sheets.specs.Page.{Page}
use Rattle.units.specs.Multiplier.{takes_every}
use Rattle.planes.specs.Columns.{takes_odd}
use Rattle.layers.specs.Halving.{odd_of}
use Rattle.runs.specs.Checks.{Setting}
use Rattle.jobs.specs.declared.codes.UnitCode.{UnitCode}
use Rattle.jobs.specs.declared.codes.UnitCode.TheVariants.{DrainMultiplier, DrainOddPlane, DrainPlane}
use Rattle.jobs.specs.declared.plan.Plan.{Plan}
use Rattle.jobs.specs.Plan.{sheet_bytes, weight_bytes}
use Rattle.jobs.specs.Survey.{coding_of}
use Rattle.jobs.specs.Trailer.{trailer_of}

-- which weights a unit takes: the drain those of the unit below, and the odd layer w where 2w + 1 is taken below
abbrev pub takes_of : UnitCode → ℤ → Bool
takes_of DrainMultiplier w = takes_every w
takes_of DrainOddPlane w = takes_odd (odd_of w)
takes_of DrainPlane w = takes_odd w

-- what a job's run is opened with; a drain has room for 65,536 rows
abbrev pub job_setting : Plan → Setting
job_setting p = record { least = (coding_of p.format).least; extra = p.extra; columns = p.columns; limit = 65536; takes = takes_of p.unit }

-- a plan's columns, planes and extra bits are in their ranges
pub record Fair (p : Plan) : Type 0 where
  pub columns : columns_check p.columns ≡ None
  pub planes : planes_check p.sheet ≡ None
  pub extra : extra_check p.extra ≡ None

-- the bytes of the sheets that the file holds
abbrev pub file_sheets : List ℕ → Plan → List ℕ
file_sheets file p = take (weight_bytes p) (drop (trailer_of file).weights file)

-- how many tiles so many rows have, the last one being shorter
abbrev pub tile_count : ℕ → ℕ
tile_count rows = (rows + 127) / 128

-- the words of a tile
abbrev pub tile_at : Tile → ℕ → Tile
tile_at words tile = take 128 (drop (tile * 128) words)

-- how many of the rows a tile has
abbrev pub tile_rows : ℕ → ℕ → ℕ
tile_rows rows tile = min 128 (rows - tile * 128)

-- the page that lies at the front of the bytes
abbrev pub front_page : Plan → ℕ → List ℕ → Page
front_page p rows bytes = page p.sheet rows p.columns (take (sheet_bytes p rows) bytes)

-- the page of a tile: the sheets before it have 128 rows each
abbrev pub page_at : Plan → List ℕ → ℕ → Page
page_at p sheets tile = front_page p (tile_rows p.rows tile) (drop (tile * sheet_bytes p 128) sheets)
