use Rattle.std.proofs.Common.{map, sym, ◌∙◌, rules, arith}
use Rattle.alignment.specs.Tile.{largest}
use Rattle.refusals.proofs.Refusing.{refused}
use Rattle.alignment.proofs.Surveying.{finite_more, finite_here, largest_more, few_enough}
use Rattle.alignment.proofs.survey.survey_tile.Goals as goal

pub returns-in_default : goal.returns-in_default
returns-in_default g c =
    refused (largest c.args.shared (map (g.F.Format.meaning c.args.format.now).decode c.args.words.now)) (few_enough _ c.args.words.now _ (omega arith) ∙ c.loop-row.invariant.0
    ∙ finite_here _ c.args.words.now c.loop-row.row c.index-words-row.result c.loop-row-test.true c.index-words-row.is (sym c.decode.ensures.value ∙ c.in_default.is))

pub loop-row-preserved : goal.loop-row-preserved
loop-row-preserved g c =
    let f = (g.F.Format.meaning c.args.format.now).decode in
    let ws = c.args.words.now in
    let i = c.loop-row.row in
    let w = c.index-words-row.result in
    let word = sym c.decode.ensures.value ∙ c.in-Some.is in
    let more = largest_more f ws i w c.loop-row-test.true c.index-words-row.is c.loop-row.top _ word in
    (c.loop-row.invariant.0 ∙ finite_more f ws i w c.loop-row-test.true c.index-words-row.is _ word, search rules)
