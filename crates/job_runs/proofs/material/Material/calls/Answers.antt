use Rattle.std.proofs.Common.{[], ◌∷◌, vec_items, refl, ap, ◌∙◌}
use Rattle.std.proofs.lemmas.List.{map_push}
use Rattle.std.proofs.lemmas.Result.{IfOk-weaker}
use Rattle.std.proofs.lemmas.Slice.{pushed}
use Rattle.alignment.specs.Tile.{tile_of}
use Rattle.sheets.specs.Meanings.{any_meaning}
use Rattle.calls.specs.declared.Call.TheVariants as call
use Rattle.calls.specs.Work.{event_of}
use Rattle.job_runs.specs.Events.{events_of, surveys, feeds, reads}
use Rattle.job_runs.proofs.Left.{in_order}
use Rattle.job_runs.proofs.material.Material.calls.Goals as goal

pub returns : goal.returns
returns g c =
    let p = c.args.self.now.plan in
    let old = c.in_ok-calls.calls in
    let fed = c.in_ok-calls-2.calls in
    let items = pushed (call.Fix ∷ []) refl c.in_ok-push.was c.push.ensures.items in
    IfOk-weaker c.ask_reads.result _ _ (λ v read f.
    in_order (events_of f (vec_items v)) (events_of f (vec_items fed)) (events_of f (vec_items c.push.new.self)) (events_of f (vec_items old))
    (surveys (tile_of f c.args.self.now.words.now)) (feeds p (tile_of f c.args.self.now.words.now) c.args.self.now.weights.now) (reads p.columns)
    (read f)
    (c.in_ok-calls-2.ensures f)
    (ap (events_of f) items ∙ map_push (event_of f any_meaning) (vec_items old) call.Fix)
    (c.in_ok-calls.ensures f)) c.ask_reads.ensures
