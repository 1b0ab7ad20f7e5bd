use Rattle.std.proofs.Common.{◌≡◌, ◌+◌, get_or, take, set, pos, ◌+ℤ◌, ◌*ℤ◌, sym, ap, ◌∙◌, arith, w16, w64, SFits, rules}
use Rattle.std.proofs.lemmas.Int.{to_z-of_z}
use Rattle.units.specs.Meaning.{grown}
use Rattle.units.proofs.Reach.{grown_none, grown_more, get_or_grown_past}
use Rattle.units.proofs.multiply.grow.Goals as goal

pub loop-column-init : goal.loop-column-init
loop-column-init c = sym (grown_none c.args.sums.now c.args.row.number.value)

pub raised-requires-clause-bounded : goal.raised-requires-clause-bounded
raised-requires-clause-bounded c =
    let i = c.loop-column.column in
    let sum_fits : SFits w64 (get_or c.loop-column.sums i (pos 0)) = search rules in
    let same = ap (λ xs. get_or xs i (pos 0)) c.loop-column.invariant ∙ get_or_grown_past c.args.sums.now c.args.row.number.value c.args.row.weights.now i in
    simp to_z-of_z (rw same (c.requires.bounded i))

pub loop-column-preserved : goal.loop-column-preserved
loop-column-preserved c =
    let i = c.loop-column.column in
    let ts = c.args.sums.now in
    let number = c.args.row.number.value in
    let ws = c.args.row.weights.now in
    let sum_fits : SFits w64 (get_or c.loop-column.sums i (pos 0)) = search rules in
    let weight_fits : SFits w16 (get_or ws i (pos 0)) = search rules in
    let raised_fits : SFits w64 c.raised.result = search rules in
    let next : c.raised.result ≡ get_or c.loop-column.sums i (pos 0) +ℤ number *ℤ get_or ws i (pos 0) = simp to_z-of_z at c.raised.ensures in
    let more : grown ts number (take (i + 1) ws) ≡ set c.loop-column.sums i c.raised.result =
    grown_more ts number ws i c.loop-column-test.true (omega (arith, c.requires.one_each, c.loop-column-test.true)) ∙ (cc) in
    ap (set c.loop-column.sums i) (to_z-of_z w64 _ raised_fits) ∙ sym more
