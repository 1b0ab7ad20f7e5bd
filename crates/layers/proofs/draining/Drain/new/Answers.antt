use Rattle.std.proofs.Common.{replicate, pos, ap, ◌∙◌}
use Rattle.layers.specs.Drain.{drain, drain_on}
use Rattle.layers.proofs.DrainSteps.{drain_new, drain_unclamped, drain_single}
use Rattle.layers.proofs.draining.Drain.new.Goals as goal

pub returns-clause-fresh : goal.returns-clause-fresh
returns-clause-fresh g c = ap (λ b. drain (drain_on b 0 (replicate 16 (pos 0)))) c.clear.ensures.clears ∙ drain_new (g.U.Unit.meaning c.args.below)

pub returns-clause-unclamped : goal.returns-clause-unclamped
returns-clause-unclamped g c = drain_unclamped

pub returns-clause-single : goal.returns-clause-single
returns-clause-single g c = drain_single
