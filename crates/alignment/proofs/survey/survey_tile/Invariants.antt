use Rattle.std.proofs.Common.{◌≡◌, map, drop}
use Rattle.alignment.specs.Tile.{not_finite, largest}
use Rattle.alignment.proofs.survey.survey_tile.Given as goal

abbrev pub invariant-loop-row : goal.invariant-loop-row
invariant-loop-row g l =
    let tile = map (g.F.Format.meaning l.format).decode l.words in
    (not_finite 0 tile ≡ not_finite l.row (drop l.row tile)) × (largest l.shared tile ≡ largest l.top (drop l.row tile))
