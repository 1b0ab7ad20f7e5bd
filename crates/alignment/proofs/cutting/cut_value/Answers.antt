use Rattle.std.proofs.Common.{◌≡◌, ◌*◌, ◌/◌, ◌%◌, ◌^◌, ◌<◌, min, not, eqb, pos, ◌-ℤ◌, ◌*ℤ◌, nat_abs, refl, ap, ◌∙◌, mod-eq_of_lt, div-le_self, arith, rules, w64, to_z, of_z}
use Rattle.std.proofs.lemmas.Nat.{one_shl}
use Rattle.std.proofs.lemmas.Int.{ints, to_z-of_z, to_z_pos, unsigned_abs-mul}
use Rattle.alignment.proofs.Values.{capped, fits_small, scaled_small, cut_is, lost_is}
use Rattle.alignment.proofs.cutting.cut_value.Goals as goal

-- the significand, scaled and not yet shifted
scaled : (c : goal.After-from-2) → ((c.from.result * 2 ^ c.args.step.extra.bits) % 2 ^ 64 ≡ c.args.decoded.1 * 2 ^ c.args.step.extra.bits) × (c.args.decoded.1 * 2 ^ c.args.step.extra.bits < 2 ^ 36)
scaled c =
    let small = scaled_small c.args.decoded.1 c.args.step.extra.bits c.requires.significand c.args.step.extra.few in
    let far : c.args.decoded.1 * 2 ^ c.args.step.extra.bits < 2 ^ 64 = omega arith in
    (ap (λ n. (n * 2 ^ c.args.step.extra.bits) % 2 ^ 64) c.from.ensures ∙ mod-eq_of_lt far, small)

-- the shift, which stops at 36
below : (c : goal.After-from-2) → c.min-places.result ≡ min (nat_abs (c.args.step.shared.exponent -ℤ c.args.decoded.2)) 36
below c = c.min-places.ensures ∙ ap (λ n. min n 36) (omega (arith, ints))

-- what is left of the significand
magnitude : (c : goal.After-from-2) → (c.from.result * 2 ^ c.args.step.extra.bits) % 2 ^ 64 / 2 ^ c.min-places.result ≡ c.args.decoded.1 * 2 ^ c.args.step.extra.bits / 2 ^ nat_abs (c.args.step.shared.exponent -ℤ c.args.decoded.2)
magnitude c =
    let n = c.args.decoded.1 * 2 ^ c.args.step.extra.bits in
    ap (λ z. z / 2 ^ c.min-places.result) (scaled c).0 ∙ ap (λ z. n / 2 ^ z) (below c)
    ∙ (capped n (nat_abs (c.args.step.shared.exponent -ℤ c.args.decoded.2)) (scaled c).1).0

small : (c : goal.After-from-2) → (c.from.result * 2 ^ c.args.step.extra.bits) % 2 ^ 64 / 2 ^ c.min-places.result < 2 ^ 36
small c = omega (arith, magnitude c, (scaled c).1, div-le_self (c.args.decoded.1 * 2 ^ c.args.step.extra.bits) (2 ^ nat_abs (c.args.step.shared.exponent -ℤ c.args.decoded.2)))

pub overflow_cast-result-2 : goal.overflow_cast-result-2
overflow_cast-result-2 c = let s = small c in search rules

-- what the shift leaves out
rest : (c : goal.After-from-2) → (c.from.result * 2 ^ c.args.step.extra.bits) % 2 ^ 64 % ((1 * 2 ^ c.min-places.result) % 2 ^ 64) ≡ (c.args.decoded.1 * 2 ^ c.args.step.extra.bits) % 2 ^ nat_abs (c.args.step.shared.exponent -ℤ c.args.decoded.2)
rest c =
    let n = c.args.decoded.1 * 2 ^ c.args.step.extra.bits in
    let lt : c.min-places.result < 64 = omega (arith, below c) in
    ap (λ z. z % ((1 * 2 ^ c.min-places.result) % 2 ^ 64)) (scaled c).0 ∙ ap (λ z. n % z) (one_shl c.min-places.result 64 lt) ∙ ap (λ z. n % 2 ^ z) (below c)
    ∙ (capped n (nat_abs (c.args.step.shared.exponent -ℤ c.args.decoded.2)) (scaled c).1).1

-- the sign times what is left
product : (c : goal.After-from-2) → to_z w64 (of_z w64 c.from-2.result) *ℤ to_z w64 ((c.from.result * 2 ^ c.args.step.extra.bits) % 2 ^ 64 / 2 ^ c.min-places.result)
    ≡ c.args.decoded.0 *ℤ pos (c.args.decoded.1 * 2 ^ c.args.step.extra.bits / 2 ^ nat_abs (c.args.step.shared.exponent -ℤ c.args.decoded.2))
product c =
    let left = (c.from.result * 2 ^ c.args.step.extra.bits) % 2 ^ 64 / 2 ^ c.min-places.result in
    let sign : to_z w64 (of_z w64 c.from-2.result) ≡ c.args.decoded.0 = omega (arith, ints, c.from-2.ensures, c.requires.sign) in
    let lt : left < 2 ^ 63 = omega (arith, small c) in
    ap (λ s. s *ℤ to_z w64 left) sign ∙ ap (λ p. c.args.decoded.0 *ℤ p) (to_z_pos w64 left lt ∙ ap pos (magnitude c))

size : (c : goal.After-from-2) → nat_abs (to_z w64 (of_z w64 c.from-2.result) *ℤ to_z w64 ((c.from.result * 2 ^ c.args.step.extra.bits) % 2 ^ 64 / 2 ^ c.min-places.result)) < 2 ^ 36
size c =
    let left = c.args.decoded.1 * 2 ^ c.args.step.extra.bits / 2 ^ nat_abs (c.args.step.shared.exponent -ℤ c.args.decoded.2) in
    omega (arith, ap nat_abs (product c) ∙ unsigned_abs-mul c.args.decoded.0 (pos left) ∙ ap (λ k. k * left) c.requires.sign, small c, magnitude c)

pub overflow_mul-result : goal.overflow_mul-result
overflow_mul-result c = fits_small _ (size c)

pub returns : goal.returns
returns c =
    let d = c.args.decoded in
    let back = to_z-of_z w64 _ (fits_small _ (size c)) in
    let number = back ∙ product c ∙ cut_is d c.args.step.shared.exponent c.args.step.extra.bits c.requires.sign c.requires.low c.requires.under c.args.step.extra.few in
    let lost = ap (λ z. not (eqb z 0)) (rest c) ∙ lost_is d c.args.step.shared.exponent c.args.step.extra.bits c.requires.sign c.requires.low c.requires.under c.args.step.extra.few in
    record {
      value = rw (number, lost) refl;
      small = rw back (size c);
    }
