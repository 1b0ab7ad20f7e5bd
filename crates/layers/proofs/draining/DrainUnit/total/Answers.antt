use Rattle.std.proofs.Common.{◌≡◌, get_or, pos, ◌+ℤ◌, Ok, sym, ap, ◌∙◌, arith, w64, SFits, to_z, of_z, rules}
use Rattle.std.proofs.lemmas.Result.{err_from_is_err_and}
use Rattle.std.proofs.lemmas.Int.{to_z-of_z}
use Rattle.layers.specs.Drain.{drain_holds, drain}
use Rattle.units.proofs.Checks.{total_read, total_refused, total_bounded}
use Rattle.units.proofs.Reach.{sum_fits}
use Rattle.layers.proofs.DrainSteps.{Sound, drain_columns, drain_total}
use Rattle.layers.proofs.draining.DrainUnit.total.Goals as goal

pub returns-in_err-below : goal.returns-in_err-below
returns-in_err-below g c =
    let s = drain_holds g.U.Unit c.args.self.now in
    let refused = total_refused s.below (drain s) c.args.column _ (drain_columns s) (sym c.total.ensures ∙ c.in_err-below.was) in
    let p = err_from_is_err_and c.from_residual.result c.from_residual.ensures.1 in
    rw (p.1, p.2) (sym refused)

pub returns : goal.returns
returns g c =
    let d = c.args.self.now in
    let s = drain_holds g.U.Unit d in
    let read = total_read s.below c.args.column _ (sym c.total.ensures ∙ c.in_ok-below.was) in
    let law = g.met.U.Unit.lawful d.below in
    let sound : Sound s = record { law = law; wide = d.wide; bounded = d.bounded } in
    let below = c.in_ok-below.below in
    let own = get_or d.sums c.args.column (pos 0) in
    let below_fits : SFits w64 below = search rules in
    let own_fits : SFits w64 own = search rules in
    let both_fit = sum_fits below own (rw read.1 (total_bounded s.below law c.args.column)) (omega (arith, d.bounded c.args.column, d.short)) in
    let sum : to_z w64 (of_z w64 (to_z w64 (of_z w64 below) +ℤ to_z w64 (of_z w64 own))) ≡ below +ℤ own =
    cc (to_z-of_z w64 below below_fits, to_z-of_z w64 own own_fits, to_z-of_z w64 (below +ℤ own) both_fit) in
    ap Ok (sum ∙ ap (λ t. t +ℤ own) read.1) ∙ sym (drain_total s sound d.short c.args.column read.0)
