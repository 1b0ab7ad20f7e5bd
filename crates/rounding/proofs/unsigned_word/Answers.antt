use Rattle.std.proofs.Common.{◌≡◌, ℕ, ◌*◌, ◌≤◌, ◌^◌, ◌<◌, ℤ, pos, negsuc, ◌-ℤ◌, nat_abs, sym, ap, ◌∙◌, arith, w64, to_z, of_z}
use lib.Ieee.{size, up, down}
use lib.Ieee.Digits.{size-le}
use borrow.Author.Differences.{ints}
use Rattle.std.proofs.lemmas.Int.{clamps}
use Rattle.rounding.specs.Word.{last_place, unsigned_word, nearest_whole}
use Rattle.rounding.proofs.Rounded.{unsigned_word_is, unsigned_word_zero}
use Rattle.rounding.proofs.unsigned_word.Goals as goal

digits : (m : ℕ) → m < 2 ^ 64 → size m ≤ 64
digits m h = size-le m 64 h

pub returns-then-magnitude-eq0-clause-value : goal.returns-then-magnitude-eq0-clause-value
returns-then-magnitude-eq0-clause-value c =
    sym (ap (λ (m : ℕ). unsigned_word m c.args.step) c.if-magnitude-eq0.true ∙ unsigned_word_zero c.args.step)

pub overflow_sub-step : goal.overflow_sub-step
overflow_sub-step c = omega (arith, ints, clamps, digits)

pub nearest_scaled-significand-requires-clause-room : goal.nearest_scaled-significand-requires-clause-room
nearest_scaled-significand-requires-clause-room c = omega (arith, ints, clamps, digits)

pub overflow_sub-word : goal.overflow_sub-word
overflow_sub-word c = omega (arith, ints, clamps, digits)

pub overflow_cast-word : goal.overflow_cast-word
overflow_cast-word c = (omega (arith, ints, clamps, digits), omega (arith, ints, clamps, digits))

pub overflow_mul-word : goal.overflow_mul-word
overflow_mul-word c = omega (arith, ints, clamps, digits)

pub overflow_add-word : goal.overflow_add-word
overflow_add-word c = omega (arith, ints, clamps, digits)

pub returns-clause-value : goal.returns-clause-value
returns-clause-value c =
    let m = c.args.magnitude in
    let last = c.last_place-last.result in
    let most = digits m c.ranges.magnitude.fits in
    let by = to_z w64 (of_z w64 (to_z w64 (of_z w64 c.from-step.result) -ℤ to_z w64 (of_z w64 last))) in
    let field = to_z w64 (of_z w64 (to_z w64 (of_z w64 last) -ℤ negsuc 148)) in
    let by_is : by ≡ c.args.step -ℤ last = omega (arith, ints, clamps) in
    let field_is : pos (nat_abs field) ≡ last -ℤ negsuc 148 = omega (arith, ints, clamps) in
    let last_is : last ≡ last_place m c.args.step = omega (arith, ints, clamps) in
    let significand : c.nearest_scaled-significand.result ≡ nearest_whole (m * up (c.args.step -ℤ last)) (down (c.args.step -ℤ last)) =
    c.nearest_scaled-significand.ensures.value ∙ ap (λ (z : ℤ). nearest_whole (m * up z) (down z)) by_is in
    let word = unsigned_word_is m c.args.step last (nat_abs field) (omega arith) last_is field_is in
    omega (arith, ints, clamps, c.min.ensures)
