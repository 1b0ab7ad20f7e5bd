use Rattle.std.proofs.lemmas.Result.{err_from_is_err_and}
use Rattle.jobs.proofs.Reading.{plan_refused, first_refused, second_refused, whole}
use Rattle.jobs.proofs.job.Job.read.Goals as goal

pub returns-in_err-plan : goal.returns-in_err-plan
returns-in_err-plan c =
    let p = err_from_is_err_and c.from_residual-in_err-plan.result c.from_residual-in_err-plan.ensures.1 in
    rw (p.1, p.2) (plan_refused c.args.file.now c.in_ok-trailer.trailer c.in_ok-trailer.ensures _ c.in_err-plan.ensures)

pub returns-in_err-activations : goal.returns-in_err-activations
returns-in_err-activations c =
    let p = err_from_is_err_and c.from_residual-in_err-activations.result c.from_residual-in_err-activations.ensures.1 in
    rw (p.1, p.2)
    (first_refused c.args.file.now c.in_ok-trailer.trailer c.in_ok-trailer.ensures c.in_ok-plan.plan c.in_ok-plan.ensures _
    c.activation_bytes.ensures.value _ c.in_err-activations.ensures)

pub returns-in_err-weights : goal.returns-in_err-weights
returns-in_err-weights c =
    let p = err_from_is_err_and c.from_residual-in_err-weights.result c.from_residual-in_err-weights.ensures.1 in
    rw (p.1, p.2)
    (second_refused c.args.file.now c.in_ok-trailer.trailer c.in_ok-trailer.ensures c.in_ok-plan.plan c.in_ok-plan.ensures _
    c.activation_bytes.ensures.value _ c.in_ok-activations.ensures _ c.weight_bytes.ensures.value _ c.in_err-weights.ensures)

pub returns : goal.returns
returns c =
    whole c.args.file.now c.in_ok-trailer.trailer c.in_ok-trailer.ensures c.in_ok-plan.plan c.in_ok-plan.ensures _
    c.activation_bytes.ensures.value _ c.in_ok-activations.ensures _ c.weight_bytes.ensures.value _ c.in_ok-weights.ensures
