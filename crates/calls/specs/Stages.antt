-- The stages of a run.
use Rattle.std.specs.Prelude.{Bool, true, false}
use Rattle.calls.specs.declared.places.Stage.{Stage}
use Rattle.calls.specs.declared.places.Stage.TheVariants.{Surveying, Aligned}

-- whether a run is aligned at this stage
abbrev pub aligned_at : Stage → Bool
aligned_at Surveying = false
aligned_at Aligned = true
