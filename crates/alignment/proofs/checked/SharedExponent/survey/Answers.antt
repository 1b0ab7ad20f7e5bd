use Rattle.std.proofs.Common.{map, rules}
use Rattle.alignment.proofs.Surveying.{is_largest, largest_ranged}
use Rattle.alignment.proofs.checked.SharedExponent.survey.Goals as goal

pub returns-in_err-exponent-clause-largest : goal.returns-in_err-exponent-clause-largest
returns-in_err-exponent-clause-largest g c = is_largest _ _

pub invariant_of-result : goal.invariant_of-result
invariant_of-result g c =
    let shared = c.args.self in
    let f = g.F.Format.meaning c.args.format.now in
    let tile = map f.decode c.args.words.now in
    let ranged = largest_ranged f (g.met.F.Format.lawful c.args.format.now) c.args.words.now shared.exponent (shared.low, shared.high) in
    record { low = search rules; high = search rules }

pub returns-clause-largest : goal.returns-clause-largest
returns-clause-largest g c = is_largest _ _
