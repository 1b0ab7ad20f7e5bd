-- Twice a weight and one more, and back.
use Rattle.std.specs.Prelude.{◌/◌, ℤ, pos, negsuc, ◌+ℤ◌}

-- the weight that is handed down for w: 2w + 1
abbrev pub odd_of : ℤ → ℤ
odd_of w = w +ℤ w +ℤ pos 1

-- half of a number, rounded down; negsuc n is -(n + 1)
abbrev pub half : ℤ → ℤ
half (pos n) = pos (n / 2)
half (negsuc n) = negsuc (n / 2)
