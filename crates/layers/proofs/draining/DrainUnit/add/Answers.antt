use Rattle.std.proofs.Common.{◌≡◌, ◌<◌, sym, ap, ◌∙◌, subst, w64}
use Rattle.std.proofs.lemmas.Int.{to_z-of_z}
use Rattle.refusals.specs.Refusing.{verdict}
use Rattle.refusals.proofs.Refusing.{changed}
use Rattle.units.specs.Meaning.{add_check, after_add}
use Rattle.units.proofs.Checks.{Accepted, accepted_at_ok, accepts, answers_ok, leaves_added}
use Rattle.layers.specs.Drain.{DrainState, drain_holds, drain_on, drain, room_made, handed_down}
use Rattle.layers.proofs.DrainSteps.{Sound, accepted_below, room_there, still_accepted, drain_grows}
use Rattle.layers.proofs.draining.DrainUnit.add.Goals as goal

pub returns : goal.returns
returns g c =
    let a = c.args.a in
    let ws = c.args.weights.now in
    let d = c.args.self.now in
    let s = drain_holds g.U.Unit d in
    let sound : Sound s = record { law = g.met.U.Unit.lawful d.below; wide = d.wide; bounded = d.bounded } in
    let ok = accepted_at_ok (drain s) a ws c.ranges.a c.in_ok-check.ensures in
    let e = c.make_room.new.self in
    let t = drain_holds g.U.Unit e in
    let made : t ≡ room_made s = c.make_room.ensures in
    let room : t.below.rows < t.below.limit = subst (λ (n : DrainState). n.below.rows < n.below.limit) (sym made) (room_there s sound) in
    let still = subst (λ n. Accepted (drain n) a ws) (sym made) (still_accepted s sound a ws ok) in
    let below = accepted_below t a ws still room in
    let answered = subst (λ z. c.add.result ≡ verdict (add_check t.below z ws)) (to_z-of_z w64 a c.ranges.a) c.add.ensures.answers in
    let grew = subst (λ z. g.U.Unit.meaning c.add.new.self ≡ after_add t.below z ws) (to_z-of_z w64 a c.ranges.a) c.add.ensures.grows in
    let steps =
    ap (λ n. drain_on n e.rows e.sums) (grew ∙ sym (leaves_added t.below a ws below))
    ∙ ap (λ n. handed_down n a ws) made
    ∙ changed s (handed_down (room_made s) a ws) (accepts (drain s) a ws ok) in
    record {
      answers = answered ∙ sym (answers_ok t.below a ws below) ∙ answers_ok (drain s) a ws ok;
      grows = ap drain steps ∙ drain_grows s sound a ws;
      steps = steps;
    }
