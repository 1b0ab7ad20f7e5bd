use Rattle.std.proofs.Common.{◌≡◌, [], ◌∷◌, ◌++◌, vec_items, sym, refl, ap, ◌∙◌, arith}
use Rattle.std.proofs.lemmas.List.FromFn.{map-range_with_len_more}
use Rattle.std.proofs.lemmas.List.{append_assoc, map_push}
use Rattle.std.proofs.lemmas.Slice.{pushed}
use Rattle.sheets.specs.Meanings.{any_meaning}
use Rattle.runs.specs.Log.{read}
use Rattle.calls.specs.declared.Call.TheVariants as call
use Rattle.calls.specs.Work.{event_of}
use Rattle.job_runs.specs.Events.{events_of, reads}
use Rattle.job_runs.proofs.material.Material.ask_reads.Goals as goal

pub loop-column-preserved : goal.loop-column-preserved
loop-column-preserved g c =
    let old = c.loop-column.calls in
    let column = c.loop-column.column in
    let items = pushed (call.Read column ∷ []) refl c.in_ok-push.was c.push.ensures.items in λ f.
    ap (events_of f) items
    ∙ map_push (event_of f any_meaning) (vec_items old) (call.Read column)
    ∙ ap (λ es. es ++ read column ∷ []) (c.loop-column.invariant f)
    ∙ append_assoc _ (reads column) (read column ∷ [])
    ∙ ap (λ es. events_of f (vec_items c.args.calls) ++ es) (sym (map-range_with_len_more read 0 column column (omega arith)))

pub returns : goal.returns
returns g c =
    let all : c.loop-column.column ≡ c.args.self.now.plan.columns = omega (arith, c.from-column-end.ensures) in λ f.
    c.loop-column.invariant f ∙ ap (λ n. events_of f (vec_items c.args.calls) ++ reads n) all
