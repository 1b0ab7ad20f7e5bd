use Rattle.std.proofs.Common.{sym, ◌∙◌}
use Rattle.layers.specs.Drain.{drain_holds}
use Rattle.layers.proofs.DrainSteps.{drain_columns}
use Rattle.layers.proofs.draining.DrainUnit.columns.Goals as goal

pub returns : goal.returns
returns g c = c.columns.ensures ∙ sym (drain_columns (drain_holds g.U.Unit c.args.self.now))
