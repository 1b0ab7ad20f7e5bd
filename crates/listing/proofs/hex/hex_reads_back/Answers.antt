use Rattle.listing.proofs.Digits.{hex_reads_back}
use Rattle.listing.proofs.hex.hex_reads_back.Goals as goal

pub returns : goal.returns
returns c = hex_reads_back
