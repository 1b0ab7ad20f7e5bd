-- The decoding of binary32 is IEEE 754's.
use Rattle.std.proofs.Common.{◌≡◌, ℕ, zero, suc, ◌+◌, ◌/◌, ◌%◌, ◌^◌, ◌<◌, Bool, true, false, cond, not, eqb, leb, ℤ, pos, negsuc, ◌+ℤ◌, nat_abs, Some, None, refl, arith}
use lib.Signed.{non_neg}
use lib.Dec.{eqb-suc-zero}
use lib.Ieee.{nan, inf, binary32, of_fields, of_bits, odd}
use lib.Ieee.Exact.{odd_sign}
use Rattle.std.proofs.lemmas.Nat.{field_of}
use Rattle.std.proofs.lemmas.Int.{ints}
use Rattle.std.proofs.lemmas.Bool.Decides.{nat_tests}
use Rattle.formats.specs.Interchange.{fraction, field, number, exponent, interchange}
use Rattle.formats.specs.Agreement.{NotFinite, Same}

-- the sign bit of a word is set from 2 ^ 31 on
sign_bit : (w : ℕ) → w < 2 ^ 32 → eqb (w / 2 ^ 31 % 2) 0 ≡ not (leb (2 ^ 31) w)
sign_bit w h = grind (arith, nat_tests)

not_not : (b : Bool) → not (not b) ≡ b
not_not true = refl
not_not false = refl

signed : (b : Bool) → not (non_neg (cond b (pos 1) (negsuc 0))) ≡ not b
signed true = refl
signed false = refl

-- q * 2 ^ k units of 2 ^ -149, decoded with the exponent e
finite : (b : Bool) (q k : ℕ) (e : ℤ) → nat_abs (e +ℤ pos 149) ≡ k → Same (Some (cond b (pos 1) (negsuc 0), q, e)) (odd 24 (not b) q k 149)
finite b q k e is = rw (is, signed b) (odd_sign 24 (not b) q k 149)

not_finite : (b c : Bool) → NotFinite (cond c (inf b) nan)
not_finite b true = tt
not_finite b false = tt

fields_agree : (b : Bool) (f t : ℕ) → Same (cond (eqb f 255) None (Some (number 8 23 (cond b (pos 1) (negsuc 0)) f t))) (of_fields binary32 (not b) f t)
unfolding of_fields
fields_agree b zero t = finite b t 0 (exponent 8 23 1) refl
fields_agree b (suc x) t = go (eqb (suc x) 255)
  where
    go : (c : Bool) → Same (cond c None (Some (number 8 23 (cond b (pos 1) (negsuc 0)) (suc x) t))) (cond c (cond (eqb t 0) (inf (not b)) nan) (odd 24 (not b) (2 ^ 23 + t) x 149))
    go true = not_finite (not b) (eqb t 0)
    go false = rw eqb-suc-zero (finite b (2 ^ 23 + t) x (exponent 8 23 (suc x)) (omega (arith, ints)))

at_widths : (w : ℕ) → w < 2 ^ 32 → Same (interchange 8 23 w) (of_bits binary32 w)
unfolding of_bits
at_widths w h = rw (field_of w 8 23, ← not_not (leb (2 ^ 31) w), ← sign_bit w h) (fields_agree (eqb (w / 2 ^ 31 % 2) 0) (field 8 23 w) (fraction 23 w))

pub agrees : (x n w : ℕ) → x ≡ 8 → n ≡ 23 → w < 2 ^ 32 → Same (interchange x n w) (of_bits binary32 w)
agrees x n w eight wide h = rw (eight, wide) (at_widths w h)
