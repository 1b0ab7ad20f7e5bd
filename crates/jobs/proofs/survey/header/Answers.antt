use Rattle.std.proofs.Common.{Ok, ap, ◌∙◌, w32, SFits, rules}
use Rattle.std.proofs.lemmas.Int.{to_z-of_z}
use Rattle.std.proofs.lemmas.Result.{err_from_is_err_and}
use Rattle.jobs.proofs.Heading.{no_job, not_all_finite, headed}
use Rattle.jobs.proofs.survey.header.Goals as goal

pub returns-in_err-job : goal.returns-in_err-job
returns-in_err-job c =
    let p = err_from_is_err_and c.from_residual.result c.from_residual.ensures.1 in
    rw (p.1, p.2) (no_job c.args.file.now _ _ _ c.in_err-job.ensures)

pub returns-in_err-shared : goal.returns-in_err-shared
returns-in_err-shared c =
    let p = err_from_is_err_and c.from_residual-in_err-shared.result c.from_residual-in_err-shared.ensures.1 in
    rw (p.1, p.2)
    (not_all_finite c.args.file.now c.in_ok-job.job c.in_ok-job.ensures c.in_ok-words.field-0 c.in_ok-words.ensures.format c.in_ok-words.ensures.words _ c.in_err-shared.ensures)

pub returns : goal.returns
returns c =
    let fits : SFits w32 c.in_ok-shared.shared = search rules in
    headed c.args.file.now c.in_ok-job.job c.in_ok-job.ensures c.in_ok-words.field-0 c.in_ok-words.ensures.format c.in_ok-words.ensures.words _
    (ap Ok (to_z-of_z w32 c.in_ok-shared.shared fits) ∙ c.in_ok-shared.ensures)
