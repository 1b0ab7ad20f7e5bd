use Rattle.std.proofs.Common.{◌≡◌, ℕ, ◌+◌, ◌*◌, ◌^◌, ℤ, nat_abs, sym, ap, ◌∙◌, subst, ap₂, arith, to_z-of_z, w32, w64, SFits, to_z, of_z}
use borrow.Author.Differences.{ints}
use lib.Ieee.{binary32, up, down, of_bits}
use lib.Ieee.Bits.{of_bits-to_bits}
use lib.Ieee.Fits.{round-fits}
use Rattle.rounding.specs.Word.{below_zero, rounded, unsigned_word, nearest_word}
use Rattle.rounding.specs.Nearest.{Nearest, GivenBack}
use Rattle.rounding.proofs.Rounded.{nearest_word_from_zero, nearest_word_below_zero}
use Rattle.rounding.proofs.Nearest.{word_nearest, word_given_back}
use Rattle.rounding.proofs.Unique.{only}
use Rattle.rounding.proofs.nearest_binary32.Goals as goal

-- the arguments as the calls have them
rest_is : (total step : ℤ) (m r : ℕ) → SFits w64 total → SFits w32 step → m ≡ nat_abs (to_z w64 (of_z w64 total)) → r ≡ unsigned_word m (to_z w32 (of_z w32 step)) → r ≡ unsigned_word (nat_abs total) step
rest_is total step m r f g a b = b ∙ ap₂ unsigned_word (a ∙ ap nat_abs (to_z-of_z f)) (to_z-of_z g)

-- everything else that the clauses say follows from which word it is
module _ (total step : ℤ) (r : ℕ) (same : r ≡ nearest_word total step) where
  read : of_bits binary32 r ≡ rounded total step
  read = ap (of_bits binary32) same ∙ of_bits-to_bits binary32 (rounded total step) (round-fits binary32 (below_zero total) (nat_abs total * up step) (down step))

  near : Nearest total step r
  near = subst (Nearest total step) (sym same) (word_nearest total step)

  back : GivenBack total step r
  back = subst (GivenBack total step) (sym same) (word_given_back total step)

pub returns-then-total-lt0 : goal.returns-then-total-lt0
returns-then-total-lt0 c =
    let total = c.args.total in
    let step = c.args.step in
    let r = 2 ^ 31 + c.unsigned_word-rest.result in
    let rest = rest_is total step _ _ c.ranges.total c.ranges.step c.unsigned_abs.ensures.value c.unsigned_word-rest.ensures.value in
    let same : r ≡ nearest_word total step = ap (λ (x : ℕ). 2 ^ 31 + x) rest ∙ sym (nearest_word_below_zero total step (omega (arith, ints))) in
    record { value = same; read = read total step r same; nearest = near total step r same; only = only total step r (omega arith) (near total step r same); given_back = back total step r same }

pub returns-else-total-lt0 : goal.returns-else-total-lt0
returns-else-total-lt0 c =
    let total = c.args.total in
    let step = c.args.step in
    let r = c.unsigned_word-rest.result in
    let rest = rest_is total step _ _ c.ranges.total c.ranges.step c.unsigned_abs.ensures.value c.unsigned_word-rest.ensures.value in
    let same : r ≡ nearest_word total step = rest ∙ sym (nearest_word_from_zero total step (omega (arith, ints))) in
    record { value = same; read = read total step r same; nearest = near total step r same; only = only total step r (omega arith) (near total step r same); given_back = back total step r same }
