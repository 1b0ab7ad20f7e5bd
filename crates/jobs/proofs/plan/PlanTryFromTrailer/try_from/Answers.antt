use Rattle.std.proofs.Common.{arith}
use Rattle.std.proofs.lemmas.Result.{err_from_is_err_and}
use Rattle.jobs.proofs.Planning.{columns_refused, extra_refused}
use Rattle.jobs.proofs.plan.PlanTryFromTrailer.try_from.Goals as goal

pub returns-in_err-new : goal.returns-in_err-new
returns-in_err-new c =
    let p = err_from_is_err_and c.from_residual-in_err-new.result c.from_residual-in_err-new.ensures.1 in
    rw (p.1, p.2) (columns_refused c.args.trailer c.in_ok-format.format c.in_ok-sheet.sheet c.in_ok-unit.unit c.in_ok-format.ensures c.in_ok-sheet.ensures c.in_ok-unit.ensures (omega arith) (omega arith) c.from.result (omega arith) _ _ c.in_err-new.ensures)

pub returns-in_err-new-2 : goal.returns-in_err-new-2
returns-in_err-new-2 c =
    let p = err_from_is_err_and c.from_residual-in_err-new-2.result c.from_residual-in_err-new-2.ensures.1 in
    rw (p.1, p.2) (extra_refused c.args.trailer c.in_ok-format.format c.in_ok-sheet.sheet c.in_ok-unit.unit c.in_ok-format.ensures c.in_ok-sheet.ensures c.in_ok-unit.ensures (omega arith) (omega arith) c.from.result (omega arith) _ _ c.in_ok-new.ensures c.from-2.result (omega arith) _ _ c.in_err-new-2.ensures)
