-- The runs of the code, as states.
use Rattle.std.specs.Prelude.{true, false, replicate}
use Rattle.formats.specs.Coding.{Coding}
use Rattle.units.specs.Meaning.{Meaning}
use Rattle.runs.specs.declared.SurveyingRun.{SurveyingRun}
use Rattle.runs.specs.declared.AlignedRun.{AlignedRun}
use Rattle.runs.specs.State.{State}

-- what a surveying run holds, by what its format and its unit mean; no row is fed yet
abbrev pub surveying : {F U W : Type 0} → (F → Coding W) → (U → Meaning) → SurveyingRun F U → State
surveying coding meaning r = record {
  aligned = false;
  least = (coding r.format).least;
  extra = r.extra.bits;
  shared = r.shared.exponent;
  rows = 0;
  slacks = replicate 16 0;
  unit = meaning r.unit;
}

-- what an aligned run holds
abbrev pub aligned : {F U W : Type 0} → (F → Coding W) → (U → Meaning) → AlignedRun F U → State
aligned coding meaning r = record {
  aligned = true;
  least = (coding r.format).least;
  extra = r.step.extra.bits;
  shared = r.step.shared.exponent;
  rows = r.rows;
  slacks = r.slacks;
  unit = meaning r.unit;
}
