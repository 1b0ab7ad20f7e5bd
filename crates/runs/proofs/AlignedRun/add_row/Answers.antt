use Rattle.std.proofs.Common.{◌≡◌, ℕ, ◌+◌, ◌*◌, ◌≤◌, length, List, get_or, sym, ap, ◌∙◌, subst, arith, w64, SFits, rules}
use Rattle.std.proofs.lemmas.Int.{to_z-of_z}
use Rattle.units.proofs.Checks.{weights_bounded}
use Rattle.runs.specs.Runs.{aligned}
use Rattle.runs.proofs.Adding.{slacks_bounded, accepted_row, unit_taken, unit_added, row_put}
use Rattle.runs.proofs.Holding.{length_row}
use Rattle.runs.proofs.AlignedRun.add_row.Goals as goal

pub unwrap-requires : goal.unwrap-requires
unwrap-requires g c =
    let run = c.args.self.now in
    let unit = g.U.Unit.meaning run.unit in
    let number = c.args.cut.number in
    let ws = c.args.weights.now in
    let fits : SFits w64 number = search rules in
    let ok = accepted_row unit number ws c.requires.columns c.requires.room c.requires.small c.requires.taken in
    unit_taken unit _ number ws (to_z-of_z w64 number fits) ok _ (search rules)

pub invariant_of-self : goal.invariant_of-self
invariant_of-self g c =
    let run = c.args.self.now in
    let ws = c.args.weights.now in
    let unit = g.U.Unit.meaning run.unit in
    let lost = c.args.cut.lost in
    let ok = accepted_row unit c.args.cut.number ws c.requires.columns c.requires.room c.requires.small c.requires.taken in
    let small = weights_bounded unit c.args.cut.number ws (g.met.U.Unit.lawful run.unit).taken ok in
    record {
      wide = ap length c.note_loss.ensures ∙ length_row lost run.slacks ws ∙ run.wide;
      short = omega (arith, c.requires.few);
      bounded = λ k. subst (λ (ns : List ℕ). get_or ns k 0 ≤ 255 * (run.rows + 1)) (sym c.note_loss.ensures) (slacks_bounded lost run.slacks ws run.rows run.bounded small k);
    }

pub returns-clause-puts : goal.returns-clause-puts
returns-clause-puts g c =
    let run = c.args.self.now in
    let ws = c.args.weights.now in
    let s = aligned g.F.Format.meaning g.U.Unit.meaning run in
    let number = c.args.cut.number in
    let fits : SFits w64 number = search rules in
    let ok = accepted_row s.unit number ws c.requires.columns c.requires.room c.requires.small c.requires.taken in
    row_put s number c.args.cut.lost ws _ _ (unit_added s.unit _ _ number ws (to_z-of_z w64 number fits) ok (search rules)) c.note_loss.ensures
