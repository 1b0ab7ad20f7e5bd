use Rattle.std.proofs.Common.{◌≡◌, ◌++◌, length, vec_items}
use Rattle.std.specs.Slice.Iter.{chunks_rest, chunks_size}
use Rattle.formats.specs.Coding.{Coding}
use Rattle.alignment.specs.Tile.{tile_of}
use Rattle.jobs.specs.Plan.{weight_bytes}
use Rattle.job_runs.specs.Events.{events_of, feeds}
use Rattle.job_runs.proofs.Left.{sized}
use Rattle.job_runs.proofs.material.Material.ask_feeds.Given as goal

-- the calls so far, and the feeds of the words and sheets that are left
abbrev pub invariant-loop-tile : goal.invariant-loop-tile
invariant-loop-tile g l =
    let left = chunks_rest l.tile-iterator in
    (goal.iterator-loop-tile g).can_next l.tile-iterator × (goal.iterator-loop-tile g).is_finite l.tile-iterator
    × (chunks_size l.tile-iterator ≡ 128)
    × (length l.rest ≡ weight_bytes (sized l.self.plan (length left)))
    × ((f : Coding g.row.W.Denot) →
    events_of f (vec_items l.calls) ++ feeds (sized l.self.plan (length left)) (tile_of f left) l.rest
    ≡ events_of f (vec_items l.initial.calls) ++ feeds l.self.plan (tile_of f l.self.words.now) l.self.weights.now)
