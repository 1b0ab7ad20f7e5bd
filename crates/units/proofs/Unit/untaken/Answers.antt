use Rattle.std.proofs.Common.{Bool, ℤ, ◌∙◌, not, rules, tests}
use Rattle.std.proofs.lemmas.Iterator.{YieldsList-from_slice}
use Rattle.std.proofs.lemmas.Iterator.Adapters.{position_from-zero}
use Rattle.std.proofs.lemmas.Iterator.Search.{position_from_yields_List}
use Rattle.units.proofs.Unit.untaken.Goals as goal

pub returns : goal.returns
returns g c =
    let left : ℤ → Bool = λ w. not ((g.Self.Unit.meaning c.args.self.now).takes w) in
    position_from_yields_List left _ _ _ c.position.ensures.ran (YieldsList-from_slice c.args.weights.now cc) (λ x b q k. search (rules, tests))
    ∙ position_from-zero left c.args.weights.now
