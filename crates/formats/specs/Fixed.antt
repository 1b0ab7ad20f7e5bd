-- Fixed8: a two's complement byte, counted in units of 2^q.
use Rattle.std.specs.Prelude.{ℕ, ◌-◌, cond, ◌||◌, ℤ, pos, negsuc, neg_ℤ, Some, Option, int_lt, nat_lt}
use Rattle.refusals.specs.declared.Refusal.{Refusal}
use Rattle.refusals.specs.declared.Refusal.TheVariants.{PowerRange}
use Rattle.refusals.specs.Refusing.{refuse}
use Rattle.formats.specs.Coding.{Decoded, Coding}

-- a byte from 128 on stands for the byte less 256
abbrev pub signed_byte : ℤ → ℕ → Decoded
signed_byte q b = cond (nat_lt b 128) (pos 1, b, q) (negsuc 0, 256 - b, q)

-- the format of the power q, in which every byte is finite
abbrev pub fixed : ℤ → Coding ℕ
fixed q = record { precision = 8; least = q; greatest = q; decode = λ b. Some (signed_byte q b) }

-- the power is from -64 to 64
abbrev pub power_check : ℤ → Option Refusal
power_check q = refuse (int_lt q (neg_ℤ (pos 64)) || int_lt (pos 64) q) PowerRange
