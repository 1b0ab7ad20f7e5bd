use Rattle.sheets.proofs.Codes.{spare_bits_unread}
use Rattle.sheets.proofs.laws.spare_bits_unread.Goals as goal

pub returns : goal.returns
returns c = spare_bits_unread
