use Rattle.std.proofs.Common.{◌≤◌, arith, pow_mono}
use Rattle.formats.proofs.ieee.AnyFormat.greatest.Goals as goal

pub overflow_sub-power : goal.overflow_sub-power
overflow_sub-power g c =
    let wide : 1 ≤ c.EXPONENT_BITS.result = omega (arith, g.T.Interchange.exponent_width.0) in
    omega (arith, pow_mono wide)
