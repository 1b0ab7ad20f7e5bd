-- Every sheet of the crate keeps the bounds.
use Rattle.std.specs.Prelude.{ℕ, zero, suc, ◌-◌, ◌*◌, ◌^◌, ◌<◌, ◌≤◌, List, pos, ◌+ℤ◌, neg_ℤ, ◌==◌, nat_lt, slice_index, unsigned_abs}
use Rattle.std.proofs.Math.Nat.{pow-succ'}
use Rattle.std.proofs.Common.{arith, pow_pos, pow_mono}
use Rattle.std.proofs.lemmas.Int.{ints}
use Rattle.std.proofs.lemmas.Bool.{cond_both, ltb-true, ltb-false}
use Rattle.sheets.specs.declared.any.AnyPacking.{AnyPacking}
use Rattle.sheets.specs.declared.any.AnyPacking.TheVariants as any
use Rattle.sheets.specs.declared.code.SheetCode.{SheetCode}
use Rattle.sheets.specs.declared.code.SheetCode.TheVariants.{Byte, Nibble, Planes}
use Rattle.sheets.specs.Any.{any_code}
use Rattle.sheets.specs.Code.{FewPlanes, plane_length}
use Rattle.sheets.specs.Packing.{signed, nibble_at, bit_at, plane_sum, weight_at, page}
use Rattle.sheets.specs.Page.{Lawful}

-- whatever the code is
signed_small : (half code : ℕ) → half ≤ 128 → unsigned_abs (signed half code) ≤ 255
signed_small half code h =
    cond_both (nat_lt code half) (pos code) (neg_ℤ (pos (2 * half - code))) (λ z. unsigned_abs z ≤ 255)
    (λ e. omega (arith, ints, ltb-true code half e)) (λ e. omega (arith, ints, ltb-false code half e))

-- j planes sum to less than 2 ^ j either way
pub plane_sum_small : (bytes : List ℕ) (stride k j : ℕ) → unsigned_abs (plane_sum bytes stride k j) < 2 ^ j
plane_sum_small bytes stride k zero = omega (arith, pow_pos 0)
plane_sum_small bytes stride k (suc j) =
    let rest = plane_sum_small bytes stride k j in
    cond_both (bit_at bytes stride k j == 0) (neg_ℤ (pos (2 ^ j))) (pos (2 ^ j)) (λ z. unsigned_abs (plane_sum bytes stride k j +ℤ z) < 2 ^ suc j)
    (λ _. omega (arith, ints, pow-succ' 2 j)) (λ _. omega (arith, ints, pow-succ' 2 j))

weight_small : (code : SheetCode) → FewPlanes code → (places : ℕ) (bytes : List ℕ) (k : ℕ) → unsigned_abs (weight_at code places bytes k) ≤ 255
weight_small Byte few places bytes k = signed_small 128 (slice_index bytes k) (omega arith)
weight_small Nibble few places bytes k = signed_small 8 (nibble_at bytes k) (omega arith)
weight_small (Planes planes) few places bytes k = omega (arith, plane_sum_small bytes (plane_length places) k planes, pow_mono few)

-- a page of few rows and columns keeps the bounds, however it is packed
pub page_lawful : (code : SheetCode) → FewPlanes code → {rows columns : ℕ} → rows ≤ 128 → 1 ≤ columns → columns ≤ 16 → (bytes : List ℕ) → Lawful (page code rows columns bytes)
page_lawful code few few_rows some few_columns bytes = record {
  few_rows = few_rows;
  some_column = some;
  few_columns = few_columns;
  small = λ row column. weight_small code few _ bytes _;
}

-- a packing of any kind has at most 8 planes, where there are planes
pub any_few : (p : AnyPacking) → FewPlanes (any_code p)
any_few (any.Byte p) = tt
any_few (any.Nibble p) = tt
any_few (any.Planes p) = p.few
