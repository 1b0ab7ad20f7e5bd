use Rattle.std.proofs.Common.{◌≡◌, ◌++◌, drop, vec_items}
use Rattle.job_runs.specs.Readings.{first_refusal, readings}
use Rattle.job_runs.proofs.told.readings_of.Given as goal

-- the answers that are left decide
abbrev pub invariant-loop-answer : goal.invariant-loop-answer
invariant-loop-answer l =
    (first_refusal (drop l.answer-index l.answers) ≡ first_refusal l.answers)
    × (vec_items l.all ++ readings (drop l.answer-index l.answers) ≡ readings l.answers)
