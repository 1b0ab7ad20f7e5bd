use Rattle.std.proofs.Common.{◌≡◌, None, rules}
use Rattle.refusals.specs.Refusing.{answer}
use Rattle.alignment.specs.Tile.{tile_of, survey_check}
use Rattle.runs.specs.Log.{survey, feed}
use Rattle.runs.specs.State.{fed_check}
use Rattle.runs.specs.Runs.{aligned}
use Rattle.calls.specs.declared.Run.TheVariants as run
use Rattle.calls.specs.declared.Call.TheVariants as call
use Rattle.calls.proofs.Making.{mapped, follows, follows_at}
use Rattle.calls.proofs.Run.make.Goals as goal

pub returns-in-Surveying-Survey-clause-follows : goal.returns-in-Surveying-Survey-clause-follows
returns-in-Surveying-Survey-clause-follows g c =
    let here = c.in-Surveying-Survey in
    let tile = tile_of (g.F.Format.meaning here.run'.format) here.words.now in
    let is : c.map-answer.result ≡ answer (survey_check tile) None = mapped (survey_check tile) c.survey.result c.map-answer.result _ c.survey.ensures.answers (λ k. search rules) c.map-answer.ensures.cases in
    follows_at g.F.Format.meaning g.U.Unit.meaning g.S.Sheet.meaning c.args.self (run.Surveying here.run') c.args.call.now (call.Survey here.words) _ _ here.is-0 here.is-1
    (follows (survey tile) _ _ _ _ is c.survey.ensures.logs)

pub returns-in-Aligned-Feed-clause-follows : goal.returns-in-Aligned-Feed-clause-follows
returns-in-Aligned-Feed-clause-follows g c =
    let here = c.in-Aligned-Feed in
    let tile = tile_of (g.F.Format.meaning here.run'.format) here.words.now in
    let page = g.S.Sheet.meaning here.sheet in
    let is : c.map-answer-in-Aligned-Feed.result ≡ answer (fed_check (aligned g.F.Format.meaning g.U.Unit.meaning here.run') tile page) None =
    mapped _ c.feed.result c.map-answer-in-Aligned-Feed.result _ c.feed.ensures.answers (λ k. search rules) c.map-answer-in-Aligned-Feed.ensures.cases in
    follows_at g.F.Format.meaning g.U.Unit.meaning g.S.Sheet.meaning c.args.self (run.Aligned here.run') c.args.call.now (call.Feed here.words here.sheet) _ _ here.is-0 here.is-1
    (follows (feed tile page) _ _ _ _ is c.feed.ensures.logs)
