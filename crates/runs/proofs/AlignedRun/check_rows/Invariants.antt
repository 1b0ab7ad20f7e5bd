use Rattle.std.proofs.Common.{◌≡◌, drop}
use Rattle.alignment.specs.Tile.{tile_of}
use Rattle.runs.specs.Checks.{rows_check}
use Rattle.runs.proofs.AlignedRun.check_rows.Given as goal

abbrev pub invariant-loop-row : goal.invariant-loop-row
invariant-loop-row g l =
    let check = rows_check l.self.step.shared.exponent (g.U.Unit.meaning l.self.unit).takes (g.S.Sheet.meaning l.sheet) in
    let tile = tile_of (g.F.Format.meaning l.self.format) l.words in
    check 0 tile ≡ check l.row (drop l.row tile)
