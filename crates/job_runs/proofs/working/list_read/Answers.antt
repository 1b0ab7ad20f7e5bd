use Rattle.std.proofs.Common.{sym, ap, ◌∙◌}
use Rattle.jobs.specs.declared.codes.FormatCode.TheVariants.{Binary16, Bfloat16, Binary32}
use Rattle.jobs.specs.Activations.{format_of, held_words}
use Rattle.job_runs.proofs.Planned.{as_many, same_listed}
use Rattle.job_runs.proofs.working.list_read.Goals as goal

pub new-material-requires-clause-full : goal.new-material-requires-clause-full
new-material-requires-clause-full c = as_many c.args.job.now.plan _ c.requires.words _ (c.as_slice.ensures.value ∙ sym (ap held_words c.in-Binary16.is) ∙ c.in_ok-words.ensures.words)

pub new-material-requires-in-Bfloat16-clause-full : goal.new-material-requires-in-Bfloat16-clause-full
new-material-requires-in-Bfloat16-clause-full c =
    as_many c.args.job.now.plan _ c.requires.words _ (c.as_slice-in-Bfloat16.ensures.value ∙ sym (ap held_words c.in-Bfloat16.is) ∙ c.in_ok-words.ensures.words)

pub new-material-requires-in-Binary32-clause-full : goal.new-material-requires-in-Binary32-clause-full
new-material-requires-in-Binary32-clause-full c =
    as_many c.args.job.now.plan _ c.requires.words _ (c.as_slice-in-Binary32.ensures.value ∙ sym (ap held_words c.in-Binary32.is) ∙ c.in_ok-words.ensures.words)

pub new-material-requires-in-Fixed8-clause-full : goal.new-material-requires-in-Fixed8-clause-full
new-material-requires-in-Fixed8-clause-full c =
    as_many c.args.job.now.plan _ c.requires.words _ (c.as_slice-in-Fixed8.ensures.value ∙ sym (ap held_words c.in-Fixed8.is) ∙ c.in_ok-words.ensures.words)

pub returns-in-Binary16 : goal.returns-in-Binary16
returns-in-Binary16 c =
    let read = c.in_ok-words.ensures in
    same_listed c.args.job.now Binary16 c.new-material.result _ c.requires.words (sym (ap format_of c.in-Binary16.is) ∙ read.format) c.new-material.ensures.plan
    (c.new-material.ensures.words ∙ c.as_slice.ensures.value ∙ sym (ap held_words c.in-Binary16.is) ∙ read.words) c.new-material.ensures.weights c.list_words.ensures

pub returns-in-Bfloat16 : goal.returns-in-Bfloat16
returns-in-Bfloat16 c =
    let read = c.in_ok-words.ensures in
    same_listed c.args.job.now Bfloat16 c.new-material-in-Bfloat16.result _ c.requires.words (sym (ap format_of c.in-Bfloat16.is) ∙ read.format) c.new-material-in-Bfloat16.ensures.plan
    (c.new-material-in-Bfloat16.ensures.words ∙ c.as_slice-in-Bfloat16.ensures.value ∙ sym (ap held_words c.in-Bfloat16.is) ∙ read.words) c.new-material-in-Bfloat16.ensures.weights c.list_words-in-Bfloat16.ensures

pub returns-in-Binary32 : goal.returns-in-Binary32
returns-in-Binary32 c =
    let read = c.in_ok-words.ensures in
    same_listed c.args.job.now Binary32 c.new-material-in-Binary32.result _ c.requires.words (sym (ap format_of c.in-Binary32.is) ∙ read.format) c.new-material-in-Binary32.ensures.plan
    (c.new-material-in-Binary32.ensures.words ∙ c.as_slice-in-Binary32.ensures.value ∙ sym (ap held_words c.in-Binary32.is) ∙ read.words) c.new-material-in-Binary32.ensures.weights c.list_words-in-Binary32.ensures
