use Rattle.formats.proofs.Counting.{counts_up}
use Rattle.formats.proofs.ieee.words_count_up.Goals as goal

pub returns : goal.returns
returns c = counts_up
