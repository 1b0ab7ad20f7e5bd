use Rattle.sheets.proofs.Codes.{codes_stand_for_weights}
use Rattle.sheets.proofs.laws.codes_stand_for_weights.Goals as goal

pub returns : goal.returns
returns c = codes_stand_for_weights
