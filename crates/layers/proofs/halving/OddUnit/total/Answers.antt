use Rattle.std.proofs.Common.{◌≡◌, ◌-ℤ◌, Ok, sym, ap, ◌∙◌, arith, w64, SFits, to_z, of_z, rules}
use lib.Signed.{shr_z}
use Rattle.std.proofs.lemmas.Int.{to_z-of_z}
use Rattle.layers.specs.Odd.{odd_holds}
use Rattle.layers.specs.Halving.{half}
use Rattle.units.proofs.Checks.{total_read, total_bounded}
use Rattle.layers.proofs.OddSteps.{Sound, difference_fits, half_shifted, shift_fits, odd_total}
use Rattle.layers.proofs.halving.OddUnit.total.Goals as goal

pub returns : goal.returns
returns g c =
    let d = c.args.self.now in
    let s = odd_holds g.U.Unit d in
    let column = c.args.column in
    let read = total_read s.below column _ (sym c.total.ensures ∙ c.in_ok-below.was) in
    let law = g.met.U.Unit.lawful d.below in
    let sound : Sound s = record { law = law; bounded = d.bounded } in
    let below = c.in_ok-below.below in
    let below_fits : SFits w64 below = search rules in
    let sum_fits : SFits w64 d.sum = search rules in
    let difference_fits = difference_fits below d.sum (rw read.1 (total_bounded s.below law column)) (omega (arith, d.bounded, d.short, law.few_rows)) in
    let half_fits = shift_fits (below -ℤ d.sum) difference_fits in
    let halved : to_z w64 (of_z w64 (shr_z (to_z w64 (of_z w64 (to_z w64 (of_z w64 below) -ℤ to_z w64 (of_z w64 d.sum)))) 2)) ≡ half (below -ℤ d.sum) =
    cc (to_z-of_z w64 below below_fits, to_z-of_z w64 d.sum sum_fits, to_z-of_z w64 (below -ℤ d.sum) difference_fits, to_z-of_z w64 (shr_z (below -ℤ d.sum) 2) half_fits, half_shifted (below -ℤ d.sum)) in
    ap Ok (halved ∙ ap (λ t. half (t -ℤ d.sum)) read.1) ∙ sym (odd_total s sound d.short column read.0)
