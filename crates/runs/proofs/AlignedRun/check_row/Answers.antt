use Rattle.std.proofs.Common.{refl, ap, ◌∙◌}
use Rattle.std.specs.Option.{option_map}
use Rattle.refusals.specs.declared.Refusal.TheVariants.{WeightNotTakenAt}
use Rattle.refusals.proofs.Refusing.{was_made, refused, accepted}
use Rattle.alignment.specs.Cutting.{word_check}
use Rattle.runs.proofs.Tiles.{column_decides}
use Rattle.runs.proofs.AlignedRun.check_row.Goals as goal

pub returns-in-Some : goal.returns-in-Some
returns-in-Some g c =
    let run = c.args.self.now in
    let word = (g.F.Format.meaning run.format).decode c.args.word in
    let ok = (was_made (word_check run.step.shared.exponent c.args.row word) _ _ c.in_ok-lined_up.ensures).0 in
    refused tt (column_decides _ (g.U.Unit.meaning run.unit).takes c.args.row word c.args.weights.now _ ok c.untaken.ensures ∙ ap (option_map (WeightNotTakenAt c.args.row)) c.in-Some.is)

pub returns-in-None : goal.returns-in-None
returns-in-None g c =
    let run = c.args.self.now in
    let word = (g.F.Format.meaning run.format).decode c.args.word in
    let ok = (was_made (word_check run.step.shared.exponent c.args.row word) _ _ c.in_ok-lined_up.ensures).0 in
    accepted (column_decides _ (g.U.Unit.meaning run.unit).takes c.args.row word c.args.weights.now _ ok c.untaken.ensures ∙ ap (option_map (WeightNotTakenAt c.args.row)) c.in-None.is) refl
