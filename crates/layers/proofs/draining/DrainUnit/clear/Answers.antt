use Rattle.std.proofs.Common.{replicate, pos, ap, ◌∙◌}
use Rattle.layers.specs.Drain.{drain_holds, drain_on, drain}
use Rattle.layers.proofs.DrainSteps.{drain_cleared}
use Rattle.layers.proofs.draining.DrainUnit.clear.Goals as goal

pub returns-clause-clears : goal.returns-clause-clears
returns-clause-clears g c =
    ap (λ b. drain (drain_on b 0 (replicate 16 (pos 0)))) c.clear.ensures.clears ∙ drain_cleared (drain_holds g.U.Unit c.args.self.now)
