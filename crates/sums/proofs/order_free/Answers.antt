use Rattle.sums.proofs.Counting.{order_free}
use Rattle.sums.proofs.order_free.Goals as goal

pub returns : goal.returns
returns c = order_free
