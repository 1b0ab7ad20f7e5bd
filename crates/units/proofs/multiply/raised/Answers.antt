use Rattle.std.proofs.Common.{◌≡◌, ◌*ℤ◌, ◌∙◌, arith, w16, w64, SFits, rules}
use Rattle.std.proofs.lemmas.Int.{to_z-of_z}
use Rattle.units.proofs.Reach.{row_reach, product_fits, sum_fits}
use Rattle.units.proofs.multiply.raised.Goals as goal

pub returns : goal.returns
returns c =
    let a = c.args.number.value in
    let w = c.args.weight in
    let read : c.from.result ≡ w = c.from.ensures ∙ to_z-of_z w16 _ c.ranges.weight in
    let number_fits : SFits w64 a = search rules in
    let weight_fits : SFits w64 c.from.result = search rules in
    let product = product_fits a w c.args.number.small c.requires.light in
    let sum = sum_fits c.args.sum (a *ℤ w) c.requires.bounded (omega (arith, row_reach a w c.args.number.small c.requires.light)) in
    cc (to_z-of_z w64 _ number_fits, to_z-of_z w64 _ c.ranges.sum, to_z-of_z w64 _ weight_fits, to_z-of_z w64 _ product, to_z-of_z w64 _ sum, read)
