use Rattle.std.proofs.Common.{◌≡◌, ◌+◌, false, List, [], ◌∷◌, ◌++◌, map, take, drop, refl, ap, ◌∙◌, subst}
use Rattle.std.proofs.lemmas.List.{take_all}
use Rattle.std.proofs.lemmas.Slice.{pushed}
use Rattle.std.proofs.lemmas.Result.{err_from_is_err_and}
use Rattle.runs.specs.Log.{Log, Event, Holds, after}
use Rattle.calls.specs.Lists.{misplaced, allowed, aligned_after, answer_to, answers_to, log_after}
use Rattle.calls.specs.Work.{event_of, events_of, state_of, format_of, is_aligned, opened_log}
use Rattle.calls.proofs.Lists.{misplaced_parts, log_more, answers_more}
use Rattle.calls.proofs.Results.{well_placed, kept_out, out_of_memory, worked}
use Rattle.calls.proofs.working.work.Goals as goal

pub loop-call-init : goal.loop-call-init
loop-call-init g c =
    let page = g.S.Sheet.meaning in
    let coding = g.F.Format.meaning (format_of c.open-run.result) in
    let events = map (event_of coding page) c.args.calls.now in (
      refl,
      ap (λ b. misplaced 0 b events) c.open-run.ensures.stage ∙ well_placed _ (c.in_ok-check_places.ensures coding page),
      λ m h. (c.new-answers.ensures.items, h),
    )

pub make-next-requires : goal.make-next-requires
make-next-requires g c =
    let page = g.S.Sheet.meaning in
    let call = c.call-item.result in
    let event = event_of (g.F.Format.meaning (format_of c.open-run.result)) page in
    ap (λ f. allowed (is_aligned c.loop-call.run) (event_of (g.F.Format.meaning f) page call)) c.loop-call.invariant.0
    ∙ (misplaced_parts event c.args.calls.now c.loop-call.call-index call c.loop-call-test.true c.call-item.is (is_aligned c.loop-call.run) c.loop-call.invariant.1).0

pub loop-call-preserved : goal.loop-call-preserved
loop-call-preserved g c =
    let page = g.S.Sheet.meaning in
    let calls = c.args.calls.now in
    let call = c.call-item.result in
    let i = c.loop-call.call-index in
    let event = event_of (g.F.Format.meaning (format_of c.open-run.result)) page in
    let same : event_of (g.F.Format.meaning (format_of c.loop-call.run)) page call ≡ event call = ap (λ f. event_of (g.F.Format.meaning f) page call) c.loop-call.invariant.0 in
    let stage = c.make-next.ensures.stage ∙ ap aligned_after same in
    let rest = (misplaced_parts event calls i call c.loop-call-test.true c.call-item.is (is_aligned c.loop-call.run) c.loop-call.invariant.1).1 in (
      c.make-next.ensures.format ∙ c.loop-call.invariant.0,
      ap (λ b. misplaced (i + 1) b (drop (i + 1) (map event calls))) stage ∙ rest,
      λ m h.
          let so_far = c.loop-call.invariant.2 m h in
          let now_log = log_after m (map event (take i calls)) in
          let made = c.make-next.ensures.follows now_log so_far.1 in
          let answer = made.0 ∙ ap (answer_to now_log) same in (
            pushed (c.make-next.result.1 ∷ []) so_far.0 c.in_ok-push.was c.push.ensures.items
                ∙ ap (λ a. answers_to m (map event (take i calls)) ++ a ∷ []) answer
                ∙ answers_more event calls i call c.loop-call-test.true c.call-item.is m,
            subst (λ (l : Log). Holds l (state_of g.F.Format.meaning g.U.Unit.meaning c.make-next.result.0))
                (ap (after now_log) same ∙ log_more event calls i call c.loop-call-test.true c.call-item.is m) made.1,
          ),
    )

pub returns : goal.returns
returns g c =
    let page = g.S.Sheet.meaning in
    let opening = c.args.opening in
    let calls = c.args.calls.now in
    let i = c.loop-call.call-index in
    let before = opened_log g.F.Format.meaning g.U.Unit.meaning opening in
    let events = events_of g.F.Format.meaning page opening calls in
    let all : map (event_of (g.F.Format.meaning (format_of c.open-run.result)) page) (take i calls) ≡ events =
    ap (λ f. map (event_of (g.F.Format.meaning f) page) (take i calls)) c.open-run.ensures.format
    ∙ ap (map (event_of (g.F.Format.meaning opening.format) page)) (take_all i calls c.loop-call-test.false) in
    let end = c.loop-call.invariant.2 before c.open-run.ensures.logs in
    worked g.F.Format.meaning g.U.Unit.meaning before events (misplaced 0 false events) _
    (well_placed _ (c.in_ok-check_places.ensures (g.F.Format.meaning opening.format) page))
    (end.0 ∙ ap (answers_to before) all)
    (subst (λ (es : List Event). Holds (log_after before es) (state_of g.F.Format.meaning g.U.Unit.meaning c.loop-call.run)) all end.1)

pub returns-in_err-check_places : goal.returns-in_err-check_places
returns-in_err-check_places g c =
    let page = g.S.Sheet.meaning in
    let opening = c.args.opening in
    let events = events_of g.F.Format.meaning page opening c.args.calls.now in
    let p = err_from_is_err_and c.from_residual.result c.from_residual.ensures.1 in
    rw (p.1, p.2)
    (kept_out g.F.Format.meaning g.U.Unit.meaning (opened_log g.F.Format.meaning g.U.Unit.meaning opening) events (misplaced 0 false events) _ (c.in_err-check_places.ensures (g.F.Format.meaning opening.format) page))

pub returns-in_err-push : goal.returns-in_err-push
returns-in_err-push g c =
    let page = g.S.Sheet.meaning in
    let opening = c.args.opening in
    let events = events_of g.F.Format.meaning page opening c.args.calls.now in
    let p = err_from_is_err_and c.from_residual-in_err-push.result c.from_residual-in_err-push.ensures.1 in
    rw (p.1, p.2)
    (out_of_memory g.F.Format.meaning g.U.Unit.meaning (opened_log g.F.Format.meaning g.U.Unit.meaning opening) events (misplaced 0 false events) _ (well_placed _ (c.in_ok-check_places.ensures (g.F.Format.meaning opening.format) page)))
