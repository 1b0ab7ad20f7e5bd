use Rattle.std.proofs.lemmas.Result.{err_from_is_err_and}
use Rattle.jobs.proofs.Heading.{no_job}
use Rattle.job_runs.proofs.Planned.{is_fair, holds, read_listed}
use Rattle.job_runs.proofs.working.list_job.Goals as goal

pub returns-in_err-job : goal.returns-in_err-job
returns-in_err-job c =
    let p = err_from_is_err_and c.from_residual.result c.from_residual.ensures.1 in
    rw (p.1, p.2) (no_job c.args.file.now _ _ _ c.in_err-job.ensures)

pub list_read-requires-clause-fair : goal.list_read-requires-clause-fair
list_read-requires-clause-fair c = is_fair c.args.file.now c.in_ok-job.job c.in_ok-job.ensures

pub list_read-requires-clause-words : goal.list_read-requires-clause-words
list_read-requires-clause-words c = (holds c.args.file.now c.in_ok-job.job c.in_ok-job.ensures).activations.long

pub list_read-requires-clause-sheets : goal.list_read-requires-clause-sheets
list_read-requires-clause-sheets c = (holds c.args.file.now c.in_ok-job.job c.in_ok-job.ensures).weights.long

pub returns : goal.returns
returns c = read_listed c.args.file.now c.in_ok-job.job c.in_ok-job.ensures c.list_read.result c.list_read.ensures
