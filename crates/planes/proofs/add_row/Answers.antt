use Rattle.std.proofs.Common.{[], get_or, take, set, pos, sym, ap, ◌∙◌, subst, arith, w16, SFits, rules}
use Rattle.std.proofs.lemmas.Int.{to_z-of_z}
use Rattle.units.specs.Meaning.{Bounded, plus_each}
use Rattle.planes.specs.Columns.{code, signs, spread}
use Rattle.planes.proofs.Powers.{spread_none, spread_past, spread_more}
use Rattle.planes.proofs.add_row.Goals as goal

pub with_row-requires : goal.with_row-requires
with_row-requires c =
    let i = c.loop-column.column in
    let so_far = ap (λ ds. get_or ds i []) c.loop-column.invariant ∙ spread_past c.args.sums.now _ c.args.row.weights.now i in
    subst (Bounded _) (sym so_far) (c.requires.bounded i)

pub loop-column-init : goal.loop-column-init
loop-column-init c = sym (spread_none c.args.sums.now _)

pub loop-column-preserved : goal.loop-column-preserved
loop-column-preserved c =
    let i = c.loop-column.column in
    let cs = c.args.sums.now in
    let a = c.args.row.number.value in
    let ws = c.args.row.weights.now in
    let w = get_or ws i (pos 0) in
    let fits : SFits w16 w = search rules in
    let so_far = ap (λ ds. get_or ds i []) c.loop-column.invariant ∙ spread_past cs a ws i in
    let coded = c.code_of.ensures ∙ ap code (to_z-of_z w16 w fits) in
    let column = c.with_row.ensures ∙ ap (λ d. plus_each d (signs 8 a c.code_of.result)) so_far ∙ ap (λ n. plus_each (get_or cs i []) (signs 8 a n)) coded in
    ap (λ ds. set ds i c.with_row.result) c.loop-column.invariant
    ∙ ap (set (spread cs a (take i ws)) i) column
    ∙ sym (spread_more cs a ws i c.loop-column-test.true (omega (arith, c.requires.one_each, c.loop-column-test.true)))
