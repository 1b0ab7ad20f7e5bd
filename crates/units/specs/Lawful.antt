-- The multiplier unit keeps the laws of a unit. Nothing here has to be believed: these are proofs, which the unit names.
use Rattle.std.specs.Prelude.{◌≡◌, Bool, true, false, T, refl}
use Rattle.std.proofs.Common.{arith}
use Rattle.std.proofs.lemmas.Bool.{leb-true}
use Rattle.units.specs.declared.multiply.Multiplier.{Multiplier}
use Rattle.units.specs.Meaning.{Lawful}
use Rattle.units.specs.Multiplier.{multiplier}

-- a test that is true, as a fact and as an equation
pub true_from_T : (b : Bool) → T b → b ≡ true
true_from_T true t = refl
true_from_T false t = absurd t

pub multiplier_lawful : (u : Multiplier) → Lawful (multiplier u)
multiplier_lawful u =
    record {
      some_column = u.some;
      few_columns = u.few;
      some_row = omega arith;
      few_rows = omega arith;
      within = u.short;
      taken = λ w t. leb-true _ _ (true_from_T _ t);
      bounded = u.bounded;
    }
