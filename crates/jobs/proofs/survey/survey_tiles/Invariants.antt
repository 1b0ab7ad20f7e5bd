use Rattle.std.proofs.Common.{◌≡◌, map}
use Rattle.std.specs.Slice.Iter.{chunks_rest, chunks_size}
use Rattle.alignment.specs.Tile.{largest}
use Rattle.jobs.specs.Survey.{tiles_check}
use Rattle.jobs.proofs.survey.survey_tiles.Given as goal

-- the words that are left decide
abbrev pub invariant-loop-tile : goal.invariant-loop-tile
invariant-loop-tile g l =
    let f = g.F.Format.meaning l.format in
    (goal.iterator-loop-tile g).can_next l.tile-iterator × (goal.iterator-loop-tile g).is_finite l.tile-iterator
    × (chunks_size l.tile-iterator ≡ 128)
    × (tiles_check 0 (map f.decode l.words) ≡ tiles_check 0 (map f.decode (chunks_rest l.tile-iterator)))
    × (largest f.least (map f.decode l.words) ≡ largest l.shared.exponent (map f.decode (chunks_rest l.tile-iterator)))
