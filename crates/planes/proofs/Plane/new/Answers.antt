use Rattle.std.proofs.Common.{◌≡◌, List, take, replicate, ℤ, pos, ap, ◌∙◌, arith}
use Rattle.std.proofs.lemmas.List.{take-replicate}
use Rattle.columns.specs.Columns.{columns_check}
use Rattle.refusals.proofs.Refusing.{made, was_made}
use Rattle.units.specs.Meaning.{Meaning}
use Rattle.planes.specs.Columns.{takes_odd}
use Rattle.planes.specs.Plane.{plane, fresh_plane}
use Rattle.planes.proofs.Powers.{signs_weigh, wiped}
use Rattle.planes.proofs.Plane.new.Goals as goal

pub returns-in_err-columns-clause-weighs : goal.returns-in_err-columns-clause-weighs
returns-in_err-columns-clause-weighs c = signs_weigh

pub invariant_of-result : goal.invariant_of-result
invariant_of-result c =
    let columns = c.in_ok-columns.columns in
    let cut : c.truncate.new.self.items ≡ take columns.count (replicate 16 (replicate 8 (pos 0))) = cc (c.truncate.ensures.items, c.from-sums.ensures.0, c.count.ensures) in
    let w = wiped columns.count _ (cut ∙ take-replicate columns.count 16 (replicate 8 (pos 0)) columns.few) in
    record { some = omega (arith, w.counted, columns.some); few = omega (arith, w.counted, columns.few); eights = w.eights; short = omega arith; bounded = w.bounded }

pub returns-clause-made : goal.returns-clause-made
returns-clause-made c =
    let n = c.args.columns in
    let with_totals : List ℤ → Meaning = λ ts. record { rows = 0; limit = 64; totals = ts; takes = takes_odd } in
    let columns = c.in_ok-columns.columns in
    let counted = was_made (columns_check n) (λ x. x.count ≡ n) columns c.in_ok-columns.ensures in
    let cut : c.truncate.new.self.items ≡ take columns.count (replicate 16 (replicate 8 (pos 0))) = cc (c.truncate.ensures.items, c.from-sums.ensures.0, c.count.ensures) in
    let w = wiped columns.count _ (cut ∙ take-replicate columns.count 16 (replicate 8 (pos 0)) columns.few) in
    made (columns_check n) (λ u. plane u ≡ fresh_plane n) _ counted.0 (ap with_totals (w.weighs ∙ ap (λ k. replicate k (pos 0)) counted.1))

pub returns-clause-weighs : goal.returns-clause-weighs
returns-clause-weighs c = signs_weigh
