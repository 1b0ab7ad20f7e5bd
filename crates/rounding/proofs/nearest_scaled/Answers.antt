use Rattle.std.proofs.Common.{◌≡◌, ℕ, ◌*◌, ◌%◌, ◌^◌, ◌≤◌, nat_abs, sym, ap, ◌∙◌, subst, arith, to_z-of_z}
use lib.Ieee.{up, down}
use borrow.Author.Differences.{ints}
use Rattle.rounding.specs.Word.{nearest_whole}
use Rattle.rounding.proofs.Rounded.{scaled_down, scaled_up, scaled_high}
use Rattle.rounding.proofs.nearest_scaled.Goals as goal

pub returns-then-power-lt0 : goal.returns-then-power-lt0
returns-then-power-lt0 c =
    let same : c.nearest_quotient.result ≡ nearest_whole (c.args.n * up c.args.power) (down c.args.power) =
    c.nearest_quotient.ensures
    ∙ ap (λ (k : ℕ). nearest_whole c.args.n (2 ^ k)) (c.unsigned_abs.ensures.value ∙ ap nat_abs (to_z-of_z c.ranges.power))
    ∙ scaled_down c.args.n c.args.power (omega (arith, ints)) in
    record { value = same; bound = subst (λ (k : ℕ). k ≤ 2 ^ 24) (sym same) (scaled_high c.args.n c.args.power c.requires.room) }

pub returns-else-power-lt0 : goal.returns-else-power-lt0
returns-else-power-lt0 c =
    let same : c.args.n * 2 ^ nat_abs c.args.power % 2 ^ 64 ≡ nearest_whole (c.args.n * up c.args.power) (down c.args.power) =
    scaled_up c.args.n c.args.power (omega (arith, ints)) c.requires.room in
    simp (to_z-of_z c.ranges.power)
    record { value = same; bound = subst (λ (k : ℕ). k ≤ 2 ^ 24) (sym same) (scaled_high c.args.n c.args.power c.requires.room) }
