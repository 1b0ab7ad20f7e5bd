use Rattle.refusals.proofs.Refusing.{was_made}
use Rattle.alignment.specs.Cutting.{word_check}
use Rattle.alignment.proofs.Rows.{short}
use Rattle.alignment.proofs.cutting.cut_row.Goals as goal

pub cut_value-requires-clause-significand : goal.cut_value-requires-clause-significand
cut_value-requires-clause-significand g c =
    let f = g.F.Format.meaning c.args.format.now in
    let decodes = (was_made (word_check c.args.step.shared.exponent c.args.row (f.decode c.args.word)) _ _ c.in_ok-decoded.ensures).1 in
    short f (g.met.F.Format.lawful c.args.format.now) c.args.word c.in_ok-decoded.decoded decodes
