use Rattle.std.proofs.Common.{sym, refl, subst, rules}
use Rattle.runs.specs.Log.{Holds}
use Rattle.runs.proofs.Holding.{begun_is, holds_opened}
use Rattle.runs.proofs.SurveyingRun.open.Goals as goal

pub returns : goal.returns
returns g c =
    let unit = g.U.Unit.meaning c.args.unit in
    let same = begun_is _ c.args.extra.bits _ unit _ (search rules) (search rules) in
    record {
      format = refl;
      opens = same;
      logs = subst (Holds _) (sym same) (holds_opened _ _ unit (g.met.U.Unit.lawful c.args.unit).few_columns);
    }
