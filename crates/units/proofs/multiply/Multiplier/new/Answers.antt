use Rattle.std.proofs.Common.{◌≡◌, List, take, replicate, ℤ, pos, ap, ◌∙◌}
use Rattle.std.proofs.lemmas.List.{take-replicate}
use Rattle.columns.specs.Columns.{columns_check}
use Rattle.refusals.proofs.Refusing.{made, was_made}
use Rattle.units.specs.Meaning.{Meaning}
use Rattle.units.specs.Multiplier.{multiplier, fresh_multiplier, takes_every}
use Rattle.units.proofs.multiply.Multiplier.new.Goals as goal

pub returns : goal.returns
returns c =
    let n = c.args.columns in
    let with_totals : List ℤ → Meaning = λ ts. record { rows = 0; limit = 128; totals = ts; takes = takes_every } in
    let columns = c.in_ok-columns.columns in
    let counted = was_made (columns_check n) (λ x. x.count ≡ n) columns c.in_ok-columns.ensures in
    let cut : c.truncate.new.self.items ≡ take columns.count (replicate 16 (pos 0)) = cc (c.truncate.ensures.items, c.from-sums.ensures.0, c.count.ensures) in
    made (columns_check n) (λ u. multiplier u ≡ fresh_multiplier n) _ counted.0
    (ap with_totals (cut ∙ take-replicate columns.count 16 (pos 0) columns.few ∙ ap (λ k. replicate k (pos 0)) counted.1))
