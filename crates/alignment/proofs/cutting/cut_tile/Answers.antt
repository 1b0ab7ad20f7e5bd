use Rattle.std.proofs.Common.{◌∙◌, arith}
use Rattle.std.proofs.lemmas.Result.{err_from_is_err_and}
use Rattle.refusals.proofs.Refusing.{unmade, was_made, was_refused}
use Rattle.alignment.specs.Cutting.{word_check}
use Rattle.alignment.proofs.Rows.{row_faulty, cut_more}
use Rattle.alignment.proofs.Surveying.{few_enough}
use Rattle.alignment.proofs.cutting.cut_tile.Goals as goal

pub returns-in_err-cut_row-clause-made : goal.returns-in_err-cut_row-clause-made
returns-in_err-cut_row-clause-made g c =
    let f = (g.F.Format.meaning c.args.format.now).decode in
    let ws = c.args.words.now in
    let shared = c.args.step.shared.exponent in
    let i = c.loop-row.row in
    let w = c.index-words-row.result in
    let p = err_from_is_err_and c.from_residual.result c.from_residual.ensures.1 in
    let faulty = was_refused (word_check shared i (f w)) _ _ c.in_err-cut_row.ensures.made in
    rw (p.1, p.2) (unmade _ _ _ (few_enough f ws _ (omega arith) ∙ c.loop-row.invariant.left ∙ row_faulty f ws i w c.loop-row-test.true c.index-words-row.is shared faulty))

pub loop-row-preserved : goal.loop-row-preserved
loop-row-preserved g c =
    let f = (g.F.Format.meaning c.args.format.now).decode in
    let ws = c.args.words.now in
    let i = c.loop-row.row in
    let w = c.index-words-row.result in
    let ok = was_made (word_check c.args.step.shared.exponent i (f w)) _ _ c.in_ok-cut_row.ensures.made in
    rw c.push.ensures.items (cut_more c.args.step f ws i _ c.loop-row.invariant w _ c.loop-row-test.true c.index-words-row.is ok.0 ok.1 c.in_ok-cut_row.ensures.small)
