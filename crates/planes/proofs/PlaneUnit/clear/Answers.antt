use Rattle.std.proofs.Common.{List, replicate, ℤ, pos, sym, ap, ◌∙◌, arith}
use Rattle.std.specs.List.{each_same}
use Rattle.std.proofs.lemmas.List.{length-map}
use Rattle.units.specs.Meaning.{Meaning}
use Rattle.planes.specs.Columns.{takes_odd, weigh}
use Rattle.planes.proofs.Powers.{wiped, wiped_back}
use Rattle.planes.proofs.PlaneUnit.clear.Goals as goal

pub invariant_of-self : goal.invariant_of-self
invariant_of-self c =
    let u = c.args.self.now in
    let cs = u.sums.items in
    let w = wiped _ _ (wiped_back cs _ c.fill.new.self c.deref_mut.ensures.value (c.fill.ensures.after (λ y e. each_same _ y e.whole))) in
    record { some = omega (arith, w.counted, u.some); few = omega (arith, w.counted, u.few); eights = w.eights; short = omega arith; bounded = w.bounded }

pub returns-clause-clears : goal.returns-clause-clears
returns-clause-clears c =
    let cs = c.args.self.now.sums.items in
    let w = wiped _ _ (wiped_back cs _ c.fill.new.self c.deref_mut.ensures.value (c.fill.ensures.after (λ y e. each_same _ y e.whole))) in
    let with_totals : List ℤ → Meaning = λ ts. record { rows = 0; limit = 64; totals = ts; takes = takes_odd } in
    ap with_totals (w.weighs ∙ ap (λ n. replicate n (pos 0)) (sym (length-map cs weigh)))
