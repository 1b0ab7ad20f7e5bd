use Rattle.std.proofs.Common.{◌≡◌, ◌+◌, map, ◌+ℤ◌, sym, ap, ◌∙◌, arith, w64, SFits, rules}
use Rattle.std.proofs.lemmas.Int.{ints}
use Rattle.refusals.specs.Refusing.{verdict}
use Rattle.refusals.proofs.Refusing.{changed}
use Rattle.units.specs.Meaning.{Meaning, add_check, after_add}
use Rattle.units.proofs.Checks.{checked, accepts, answers_ok, leaves_added}
use Rattle.layers.specs.Odd.{odd_holds, odd_on, odd, odd_handed_down}
use Rattle.layers.specs.Halving.{odd_of}
use Rattle.layers.proofs.OddSteps.{Sound, accepted_odd, sum_bounded, sum_read, odd_room, odd_grows}
use Rattle.layers.proofs.halving.OddUnit.add.Goals as goal

pub invariant_of-self : goal.invariant_of-self
invariant_of-self g c =
    let a = c.args.a in
    let ws = c.args.weights.now in
    let d = c.args.self.now in
    let s = odd_holds g.U.Unit d in
    let sound : Sound s = record { law = g.met.U.Unit.lawful d.below; bounded = d.bounded } in
    let ok = checked (odd s) a ws c.in_ok-row.row c.ranges.a c.in_ok-row.ensures in
    let row = c.in_ok-row.row in
    let grew : g.U.Unit.meaning c.add_odd.new.below ≡ after_add s.below a (map odd_of ws) = cc (c.add_odd.ensures.grows, ok.number, ok.weights) in
    let same_limit : (g.U.Unit.meaning c.add_odd.new.below).limit ≡ s.below.limit =
    ap (λ (m : Meaning). m.limit) (grew ∙ sym (leaves_added s.below a (map odd_of ws) (accepted_odd s sound a ws ok.accepted))) in
    let sum_fits : SFits w64 d.sum = search rules in
    let bounded = sum_bounded s sound a ws ok.accepted in
    let a_fits = c.ranges.a in
    record {
      short = omega (arith, odd_room s sound a ws ok.accepted, same_limit);
      bounded = omega (arith, ints, bounded, ok.accepted.small, sound.law.few_rows, d.short);
    }

pub returns : goal.returns
returns g c =
    let a = c.args.a in
    let ws = c.args.weights.now in
    let d = c.args.self.now in
    let s = odd_holds g.U.Unit d in
    let sound : Sound s = record { law = g.met.U.Unit.lawful d.below; bounded = d.bounded } in
    let ok = checked (odd s) a ws c.in_ok-row.row c.ranges.a c.in_ok-row.ensures in
    let below = accepted_odd s sound a ws ok.accepted in
    let ws' = map odd_of ws in
    let sum_fits : SFits w64 d.sum = search rules in
    let summed = sum_read d.sum a d.rows sum_fits c.ranges.a (omega (arith, d.short, sound.law.few_rows)) (sum_bounded s sound a ws ok.accepted) in
    let answered : c.add_odd.result ≡ verdict (add_check s.below a ws') = cc (c.add_odd.ensures.answers, ok.number, ok.weights) in
    let grew : g.U.Unit.meaning c.add_odd.new.below ≡ after_add s.below a ws' = cc (c.add_odd.ensures.grows, ok.number, ok.weights) in
    let steps =
    ap (odd_on (g.U.Unit.meaning c.add_odd.new.below) (d.rows + 1)) summed
    ∙ ap (λ n. odd_on n (d.rows + 1) (d.sum +ℤ a)) (grew ∙ sym (leaves_added s.below a ws' below))
    ∙ changed s (odd_handed_down s a ws) (accepts (odd s) a ws ok.accepted) in
    record {
      answers = answered ∙ sym (answers_ok s.below a ws' below) ∙ answers_ok (odd s) a ws ok.accepted;
      grows = ap odd steps ∙ odd_grows s sound a ws;
      steps = steps;
    }
