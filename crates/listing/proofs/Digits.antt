-- The sixteen digits, and the word that eight of them write.
use Rattle.std.proofs.Common.{◌≡◌, ℕ, ◌*◌, ◌/◌, ◌%◌, ◌^◌, ◌<◌, List, map, get_or, sym, refl, ap, ◌∙◌, zero-add, arith}
use Rattle.std.specs.List.{range_with_len}
use Rattle.std.specs.Char.{digit_value}
use Rattle.std.proofs.lemmas.List.FromFn.{get_or-range_with_len}
use Rattle.std.proofs.lemmas.List.{get_or-map}
use Rattle.listing.specs.Hex.{hex_digits, hex_digit, HexReadsBack}

values : map digit_value hex_digits ≡ range_with_len 0 16
values = refl

-- a digit is read as the value that it stands for
digit_read : (word place : ℕ) → digit_value (hex_digit word place) ≡ word / 2 ^ (4 * place) % 16
digit_read word place =
    let value = word / 2 ^ (4 * place) % 16 in
    let small : value < 16 = omega arith in
    sym (get_or-map digit_value hex_digits value 0 0 small)
    ∙ ap (λ (vs : List ℕ). get_or vs value 0) values
    ∙ get_or-range_with_len 0 16 value 0 small
    ∙ zero-add value

pub hex_reads_back : HexReadsBack
hex_reads_back word small =
    let read = digit_read word in
    omega (arith, read 0, read 1, read 2, read 3, read 4, read 5, read 6, read 7)
