-- What the bits of a place say of its weight.
use Rattle.std.proofs.Common.{◌≡◌, ℕ, zero, suc, ◌+◌, ◌-◌, ◌*◌, ◌/◌, ◌%◌, ◌^◌, ◌<◌, eqb, ltb, List, get_or, pos, ◌+ℤ◌, neg_ℤ, nat_abs, refl, ap, ◌∙◌, mod-eq_of_lt, arith}
use native.Mathlib.Nat.{pow-succ', add-mod_right}
use Rattle.std.proofs.lemmas.Nat.{mul-add-lt}
use Rattle.std.proofs.lemmas.Int.{ints}
use Rattle.std.proofs.lemmas.Bool.{cond_both, ltb-true, ltb-false, eqb-true, eqb-false}
use Rattle.sheets.specs.declared.code.SheetCode.{SheetCode}
use Rattle.sheets.specs.declared.code.SheetCode.TheVariants.{Byte, Nibble, Planes}
use Rattle.sheets.specs.Code.{plane_length}
use Rattle.sheets.specs.Laws.{plane_code, code_at, TwosComplement, CodesStandForWeights, SpareBitsUnread}
use Rattle.sheets.specs.Packing.{signed, nibble, nibble_at, bit_at, plane_sum, weight_at}

signed_stands : (half code : ℕ) → code < 2 * half → TwosComplement half code (signed half code)
signed_stands half code h =
    let whole = 2 * half in
    let itself : code % whole ≡ code = mod-eq_of_lt h in
    cond_both (ltb code half) (pos code) (neg_ℤ (pos (whole - code))) (TwosComplement half code)
    (λ e.
    let low = ltb-true code half e in
    let on : nat_abs (pos code +ℤ pos whole) ≡ code + whole = omega (arith, ints) in
    record { least = omega (arith, ints); below = omega (arith, ints); same = ap (λ (n : ℕ). n % whole) on ∙ add-mod_right code whole ∙ itself })
    (λ e.
    let high = ltb-false code half e in
    let back : nat_abs (neg_ℤ (pos (whole - code)) +ℤ pos whole) ≡ code = omega (arith, ints) in
    record { least = omega (arith, ints); below = omega (arith, ints); same = ap (λ (n : ℕ). n % whole) back ∙ itself })

nibble_small : (byte k : ℕ) → nibble byte k < 16
nibble_small byte k = cond_both (eqb (k % 2) 0) (byte % 16) (byte / 16 % 16) (λ n. n < 16) (λ e. omega arith) (λ e. omega arith)

planes_stand : (bytes : List ℕ) (stride k planes : ℕ) → plane_sum bytes stride k planes +ℤ pos (2 ^ planes) ≡ pos (2 * plane_code bytes stride k planes + 1)
planes_stand bytes stride k zero = refl
planes_stand bytes stride k (suc j) =
    let below = planes_stand bytes stride k j in
    let b = bit_at bytes stride k j in
    cond_both (eqb b 0) (neg_ℤ (pos (2 ^ j))) (pos (2 ^ j)) (λ z. (plane_sum bytes stride k j +ℤ z) +ℤ pos (2 ^ suc j) ≡ pos (2 * (plane_code bytes stride k j + b * 2 ^ j) + 1))
    (λ e. let zeroed = ap (λ (x : ℕ). x * 2 ^ j) (eqb-true b 0 e) in omega (arith, ints, pow-succ' 2 j))
    (λ e. let one : b ≡ 1 = omega (arith, eqb-false b 0 e) in let whole = ap (λ (x : ℕ). x * 2 ^ j) one in omega (arith, ints, pow-succ' 2 j))

pub codes_stand_for_weights : CodesStandForWeights
codes_stand_for_weights Byte places bytes small k = signed_stands 128 (get_or bytes k 0) (small k)
codes_stand_for_weights Nibble places bytes small k = signed_stands 8 (nibble_at bytes k) (nibble_small (get_or bytes (k / 2) 0) k)
codes_stand_for_weights (Planes planes) places bytes small k = planes_stand bytes (plane_length places) k planes

-- places with one code have one weight
by_code : (packing : SheetCode) (places : ℕ) (bytes others : List ℕ) (k : ℕ) → code_at packing places bytes k ≡ code_at packing places others k → weight_at packing places bytes k ≡ weight_at packing places others k
by_code Byte places bytes others k same = ap (signed 128) same
by_code Nibble places bytes others k same = ap (signed 8) same
by_code (Planes planes) places bytes others k same =
    let here = planes_stand bytes (plane_length places) k planes in
    let there = planes_stand others (plane_length places) k planes in
    omega (arith, ints)

pub place_lt : (rows columns row column : ℕ) → row < rows → column < columns → row * columns + column < rows * columns
place_lt rows columns row column r c = omega (arith, mul-add-lt row columns column rows r c)

pub spare_bits_unread : SpareBitsUnread
spare_bits_unread packing rows columns bytes others same = record {
  rows = refl;
  columns = refl;
  weights = λ row column r c. by_code packing (rows * columns) bytes others (row * columns + column) (same (row * columns + column) (place_lt rows columns row column r c));
}
