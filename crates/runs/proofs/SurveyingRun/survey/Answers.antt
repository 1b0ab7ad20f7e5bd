use Rattle.std.proofs.Common.{Err, refl, ap, ◌∙◌}
use Rattle.std.proofs.lemmas.Result.{err_from_is_err_and}
use Rattle.refusals.proofs.Refusing.{refused, accepted, kept, changed, was_made, was_refused}
use Rattle.alignment.specs.Tile.{tile_of, survey_check, largest}
use Rattle.runs.specs.State.{sharing}
use Rattle.runs.specs.Runs.{surveying}
use Rattle.runs.proofs.Holding.{logged_survey}
use Rattle.runs.proofs.SurveyingRun.survey.Goals as goal

pub returns-in_err-self : goal.returns-in_err-self
returns-in_err-self g c =
    let run = c.args.self.now in
    let s = surveying g.F.Format.meaning g.U.Unit.meaning run in
    let tile = tile_of (g.F.Format.meaning run.format) c.args.words.now in
    let p = err_from_is_err_and c.from_residual.result c.from_residual.ensures.1 in
    let no = was_refused (survey_check tile) _ _ c.in_err-self.ensures.made in
    let same = kept s (sharing s (largest s.shared tile)) no in
    record { answers = p.1 ∙ ap Err p.2 ∙ refused tt no; format = refl; surveys = same; logs = logged_survey s s tile refl same }

pub returns : goal.returns
returns g c =
    let run = c.args.self.now in
    let s = surveying g.F.Format.meaning g.U.Unit.meaning run in
    let tile = tile_of (g.F.Format.meaning run.format) c.args.words.now in
    let ok = was_made (survey_check tile) _ _ c.in_ok-self.ensures.made in
    let same = ap (sharing s) ok.1 ∙ changed s (sharing s (largest s.shared tile)) ok.0 in
    record { answers = accepted ok.0 refl; format = refl; surveys = same; logs = logged_survey s _ tile refl same }
