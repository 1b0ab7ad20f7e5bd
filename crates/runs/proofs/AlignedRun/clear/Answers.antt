use Rattle.std.proofs.Common.{rules}
use Rattle.runs.specs.Runs.{aligned}
use Rattle.runs.proofs.Holding.{logged_clear}
use Rattle.runs.proofs.AlignedRun.clear.Goals as goal

pub returns-clause-logs : goal.returns-clause-logs
returns-clause-logs g c =
    let run = c.args.self in
    logged_clear (aligned g.F.Format.meaning g.U.Unit.meaning run) _ (g.met.U.Unit.lawful run.unit).few_columns (search rules)
