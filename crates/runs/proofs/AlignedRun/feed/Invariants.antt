use Rattle.std.proofs.Common.{◌≡◌}
use Rattle.alignment.specs.Tile.{tile_of}
use Rattle.runs.specs.Runs.{aligned}
use Rattle.runs.proofs.Feeding.{Midway}
use Rattle.runs.proofs.AlignedRun.feed.Given as goal

abbrev pub invariant-loop-row : goal.invariant-loop-row
invariant-loop-row g l =
    (l.self.format ≡ l.initial.self.format)
    × Midway (aligned g.F.Format.meaning g.U.Unit.meaning l.initial.self) (aligned g.F.Format.meaning g.U.Unit.meaning l.self)
    (g.S.Sheet.meaning l.sheet) (tile_of (g.F.Format.meaning l.initial.self.format) l.words) l.row
