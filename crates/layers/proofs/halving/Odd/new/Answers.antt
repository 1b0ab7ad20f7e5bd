use Rattle.std.proofs.Common.{pos, ap, ◌∙◌}
use Rattle.layers.specs.Odd.{odd, odd_on}
use Rattle.layers.proofs.OddSteps.{odd_new, odd_unclamped, odd_single}
use Rattle.layers.proofs.halving.Odd.new.Goals as goal

pub returns-clause-fresh : goal.returns-clause-fresh
returns-clause-fresh g c = ap (λ b. odd (odd_on b 0 (pos 0))) c.clear.ensures.clears ∙ odd_new (g.U.Unit.meaning c.args.below)

pub returns-clause-unclamped : goal.returns-clause-unclamped
returns-clause-unclamped g c = odd_unclamped

pub returns-clause-single : goal.returns-clause-single
returns-clause-single g c = odd_single
