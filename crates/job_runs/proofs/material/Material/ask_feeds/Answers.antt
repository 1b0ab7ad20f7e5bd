use Rattle.std.proofs.Common.{[], ◌∷◌, ◌++◌, length, take, drop, vec_items, sym, refl, ap, ◌∙◌, arith}
use Rattle.std.specs.Slice.Iter.{chunks_rest, chunks_size}
use Rattle.std.proofs.lemmas.List.{append-nil, map_push}
use Rattle.std.proofs.lemmas.Slice.{pushed}
use Rattle.alignment.specs.Tile.{tile_of}
use Rattle.sheets.specs.Meanings.{any_meaning}
use Rattle.sheets.specs.Packing.{page}
use Rattle.calls.specs.declared.Call.TheVariants as call
use Rattle.calls.specs.Work.{event_of}
use Rattle.job_runs.specs.Events.{events_of, feeds}
use Rattle.job_runs.proofs.Left.{sized, feeds_on, sheets_behind, none_fed}
use Rattle.job_runs.proofs.material.Material.ask_feeds.Goals as goal

pub split_at-requires : goal.split_at-requires
split_at-requires g c =
    let parts = c.in-Some.ensures.steps.1 in
    omega (arith, c.byte_length-size.ensures.value, c.loop-tile.invariant.3, sheets_behind (chunks_rest c.loop-tile.tile-iterator) c.in-Some.tile.now (chunks_rest c.next.new.self) (chunks_size c.loop-tile.tile-iterator) parts.0 parts.1 c.loop-tile.invariant.2 parts.2 c.args.self.now.plan)

pub loop-tile-preserved : goal.loop-tile-preserved
loop-tile-preserved g c =
    let p = c.args.self.now.plan in
    let tile = c.in-Some.tile in
    let sheets = c.loop-tile.rest.now in
    let rest = chunks_rest c.loop-tile.tile-iterator in
    let more = chunks_rest c.next.new.self in
    let old = c.loop-tile.calls in
    let feed = call.Feed tile c.sheet.result in
    let size = c.in-Some.ensures.steps.0 ∙ c.loop-tile.invariant.2 in
    let parts = c.in-Some.ensures.steps.1 in
    let bytes = sheets_behind rest tile.now more (chunks_size c.loop-tile.tile-iterator) parts.0 parts.1 c.loop-tile.invariant.2 parts.2 p in
    let behind = c.split_at.ensures.back ∙ ap (λ n. drop n sheets) c.byte_length-size.ensures.value in
    let paged = c.sheet.ensures ∙ ap (page p.sheet (length tile.now) p.columns) (c.split_at.ensures.front ∙ ap (λ n. take n sheets) c.byte_length-size.ensures.value) in
    let items = pushed (feed ∷ []) refl c.in_ok-push.was c.push.ensures.items in (
      omega (arith, size),
      tt,
      size,
      omega (arith, c.split_at.ensures.back_len, c.byte_length-size.ensures.value, c.loop-tile.invariant.3, bytes),
      λ f. ap (λ bs. events_of f (vec_items c.push.new.self) ++ feeds (sized p (length more)) (tile_of f more) bs) behind
          ∙ feeds_on f rest tile.now more (chunks_size c.loop-tile.tile-iterator) parts.0 parts.1 c.loop-tile.invariant.2 parts.2 p sheets (any_meaning c.sheet.result)
          (events_of f (vec_items old)) (events_of f (vec_items c.push.new.self)) paged (ap (events_of f) items ∙ map_push (event_of f any_meaning) (vec_items old) feed)
          ∙ c.loop-tile.invariant.4 f,
    )

pub returns : goal.returns
returns g c = λ f.
    sym (append-nil (events_of f (vec_items c.loop-tile.calls)))
    ∙ ap (λ es. events_of f (vec_items c.loop-tile.calls) ++ es) (sym (none_fed f (chunks_rest c.loop-tile.tile-iterator) (sized c.args.self.now.plan (length (chunks_rest c.loop-tile.tile-iterator))) c.loop-tile.rest.now c.in-None.ensures.steps.1.0))
    ∙ c.loop-tile.invariant.4 f
