use Rattle.std.proofs.Common.{◌≡◌, map, vec_items, IfOk, subst, rules}
use Rattle.std.proofs.lemmas.Iterator.{YieldsList-from_map_by}
use Rattle.std.proofs.lemmas.Iterator.Consumers.{YieldsList-at, map_from_collect}
use Rattle.std.proofs.lemmas.List.{map-id}
use Rattle.formats.specs.Coding.{Coding}
use Rattle.alignment.specs.Tile.{tile_of}
use Rattle.sheets.specs.Meanings.{any_meaning}
use Rattle.calls.specs.Work.{event_of}
use Rattle.job_runs.specs.Events.{events_of, surveys}
use Rattle.job_runs.proofs.Left.{tiles_yielded, for_each}
use Rattle.job_runs.proofs.material.Material.ask_surveys.Goals as goal

pub returns : goal.returns
returns g c =
    let words = c.args.self.now.words.now in
    for_each (λ (f : Coding g.row.W.Denot) v. events_of f (vec_items v) ≡ surveys (tile_of f words)) c.collect.result (λ f.
    let tiles = YieldsList-at c.map.ensures.source (tiles_yielded f c.chunks.result words c.chunks.ensures.size c.chunks.ensures.rest) in
    let asked : IfOk c.collect.result (λ v. events_of f (vec_items v) ≡ map (λ e. e) (surveys (tile_of f words))) =
    map_from_collect c.collect.result c.collect.ensures.ran (YieldsList-from_map_by _ (event_of f any_meaning) (λ e. e) tiles c.map.ensures.closure (λ x r q k. search rules)) in
    subst (λ es. IfOk c.collect.result (λ v. events_of f (vec_items v) ≡ es)) (map-id (surveys (tile_of f words))) asked)
