use Rattle.std.proofs.Common.{◌+◌, map, drop, sym, ap, ◌∙◌}
use Rattle.std.specs.Option.{option_map}
use Rattle.calls.specs.Lists.{misplaced}
use Rattle.calls.specs.Stages.{aligned_at}
use Rattle.calls.specs.Work.{event_of, placed}
use Rattle.calls.proofs.Lists.{allowed_to, not_allowed, misplaced_more, misplaced_here, misplaced_none}
use Rattle.calls.proofs.places.check_places.Goals as goal

pub returns-in_default : goal.returns-in_default
returns-in_default g c = λ f page.
    let call = c.index-calls-place.result in
    let event = event_of f page in
    let kept = not_allowed (aligned_at c.loop-place.stage) (event call) (ap (option_map aligned_at) (sym c.in_default.is) ∙ c.next.ensures f page) in
    sym (ap placed (c.loop-place.invariant f page ∙ misplaced_here event c.args.calls.now c.loop-place.place call c.loop-place-test.true c.index-calls-place.is (aligned_at c.loop-place.stage) kept))

pub loop-place-preserved : goal.loop-place-preserved
loop-place-preserved g c = λ f page.
    let call = c.index-calls-place.result in
    let event = event_of f page in
    let led = allowed_to (aligned_at c.loop-place.stage) (event call) (aligned_at c.in-Some.next) (ap (option_map aligned_at) (sym c.in-Some.is) ∙ c.next.ensures f page) in
    c.loop-place.invariant f page
    ∙ misplaced_more event c.args.calls.now c.loop-place.place call c.loop-place-test.true c.index-calls-place.is (aligned_at c.loop-place.stage) led.0
    ∙ ap (λ b. misplaced (c.loop-place.place + 1) b (drop (c.loop-place.place + 1) (map event c.args.calls.now))) (sym led.1)

pub returns : goal.returns
returns g c = λ f page. sym (ap placed (c.loop-place.invariant f page ∙ misplaced_none (event_of f page) c.args.calls.now c.loop-place.place (aligned_at c.loop-place.stage) c.loop-place-test.false))
