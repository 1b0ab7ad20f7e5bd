use Rattle.std.proofs.Common.{arith}
use Rattle.listing.proofs.Printed.{printed}
use Rattle.listing.proofs.hex.HexDisplay.fmt.Goals as goal

pub returns-clause-writes : goal.returns-clause-writes
returns-clause-writes g c =
    simp (c.in_radix.ensures, c.laid_out.ensures, printed c.args.self.now.0 (omega arith)) at c.write.ensures.writes
