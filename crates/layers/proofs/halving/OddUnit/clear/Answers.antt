use Rattle.std.proofs.Common.{pos, ap, ◌∙◌}
use Rattle.layers.specs.Odd.{odd_holds, odd_on, odd}
use Rattle.layers.proofs.OddSteps.{odd_cleared}
use Rattle.layers.proofs.halving.OddUnit.clear.Goals as goal

pub returns-clause-clears : goal.returns-clause-clears
returns-clause-clears g c =
    ap (λ b. odd (odd_on b 0 (pos 0))) c.clear.ensures.clears ∙ odd_cleared (odd_holds g.U.Unit c.args.self.now)
