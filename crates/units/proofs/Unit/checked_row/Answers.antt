use Rattle.std.proofs.Common.{refl, ap, ◌∙◌, arith}
use Rattle.std.specs.Option.{option_map}
use Rattle.refusals.specs.declared.Refusal.TheVariants.{WeightNotTaken}
use Rattle.refusals.proofs.Refusing.{made, unmade}
use Rattle.units.proofs.Checks.{number_at_ok, column_decides, when_accepted, weights_bounded}
use Rattle.units.proofs.Unit.checked_row.Goals as goal

pub returns-in-Some : goal.returns-in-Some
returns-in-Some g c =
    let m = g.Self.Unit.meaning c.args.self.now in
    let number = number_at_ok c.args.a c.in_ok-number.number c.ranges.a c.in_ok-number.ensures in
    unmade _ _ _ (column_decides m c.args.a c.args.weights.now _ (omega arith) (omega arith) number.1 c.untaken.ensures ∙ ap (option_map WeightNotTaken) c.in-Some.is)

pub invariant_of-result : goal.invariant_of-result
invariant_of-result g c =
    let m = g.Self.Unit.meaning c.args.self.now in
    let ws = c.args.weights.now in
    let law = g.met.Self.Unit.lawful c.args.self.now in
    let number = number_at_ok c.args.a c.in_ok-number.number c.ranges.a c.in_ok-number.ensures in
    let passes = column_decides m c.args.a ws _ (omega arith) (omega arith) number.1 c.untaken.ensures ∙ ap (option_map WeightNotTaken) c.in_default.is in
    record { few = omega (arith, law.few_columns); light = weights_bounded m c.args.a ws law.taken (when_accepted m c.args.a ws passes) }

pub returns : goal.returns
returns g c =
    let m = g.Self.Unit.meaning c.args.self.now in
    let number = number_at_ok c.args.a c.in_ok-number.number c.ranges.a c.in_ok-number.ensures in
    made _ _ _ (column_decides m c.args.a c.args.weights.now _ (omega arith) (omega arith) number.1 c.untaken.ensures ∙ ap (option_map WeightNotTaken) c.in_default.is) (number.0, refl)
