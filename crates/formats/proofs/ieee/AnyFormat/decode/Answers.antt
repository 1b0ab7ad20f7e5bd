use Rattle.std.proofs.Common.{◌≡◌, ap, ◌∙◌, arith}
use Rattle.formats.specs.Interchange.{interchange}
use Rattle.formats.proofs.Agreement.{agrees}
use Rattle.formats.proofs.Widening.{widened}
use Rattle.formats.proofs.ieee.AnyFormat.decode.Given.{Over}
use Rattle.formats.proofs.ieee.AnyFormat.decode.Goals as goal

module _ (g : Over) (c : goal.After-decode_number g) where
  converted : c.into.result ≡ g.T.Interchange.number c.args.word
  converted = g.met.T.Interchange.converted c.args.word c.into.result c.into.ensures

  value : c.decode_number.result ≡ interchange g.T.Interchange.EXPONENT_BITS g.T.Interchange.FRACTION_BITS (g.T.Interchange.number c.args.word)
  value = c.decode_number.ensures ∙ ap (interchange g.T.Interchange.EXPONENT_BITS g.T.Interchange.FRACTION_BITS) converted

pub returns-clause-widened : goal.returns-clause-widened
returns-clause-widened g c k = rw (value g c) (widened g.T.Interchange.EXPONENT_BITS g.T.Interchange.FRACTION_BITS k (g.T.Interchange.number c.args.word))

pub returns-clause-ieee : goal.returns-clause-ieee
returns-clause-ieee g c eight wide = rw (value g c) (agrees g.T.Interchange.EXPONENT_BITS g.T.Interchange.FRACTION_BITS (g.T.Interchange.number c.args.word) eight wide (omega (arith, converted g c, c.into.type_inv)))
