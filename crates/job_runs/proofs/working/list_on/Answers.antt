use Rattle.std.proofs.Common.{◌∙◌, w32, SFits, rules}
use Rattle.std.proofs.lemmas.Int.{to_z-of_z}
use Rattle.job_runs.proofs.Worked.{never_misplaced, job_worked, stage_is, aligned_then, few_readings, job_listed}
use Rattle.job_runs.proofs.working.list_on.Goals as goal

pub unreachable-requires : goal.unreachable-requires
unreachable-requires g c =
    never_misplaced g.F.Format.meaning g.U.Unit.meaning c.args.opening c.args.material.now c.as_slice.result.now _ c.as_slice.ensures.value c.in_ok-calls.ensures c.requires
    _ _ c.in-Err-Misplaced.field-0-is c.in-Err-Misplaced.ensures

pub shared_exponent-requires : goal.shared_exponent-requires
shared_exponent-requires g c =
    let worked = job_worked g.F.Format.meaning g.U.Unit.meaning c.args.opening c.args.material.now c.as_slice.result.now _ c.as_slice.ensures.value c.in_ok-calls.ensures c.requires c.in-Ok.worked c.in-Ok.ensures c.as_slice-2.result.now c.as_slice-2.ensures.value in
    stage_is g.F.Format.meaning g.U.Unit.meaning c.in-Ok.worked.run ∙ aligned_then worked _ c.in_ok-readings.ensures

pub lines_of-requires : goal.lines_of-requires
lines_of-requires g c =
    let worked = job_worked g.F.Format.meaning g.U.Unit.meaning c.args.opening c.args.material.now c.as_slice.result.now _ c.as_slice.ensures.value c.in_ok-calls.ensures c.requires c.in-Ok.worked c.in-Ok.ensures c.as_slice-2.result.now c.as_slice-2.ensures.value in
    few_readings worked _ c.in_ok-readings.ensures _ c.as_slice-3.ensures.value c.args.material.now.fair

pub returns : goal.returns
returns g c =
    let worked = job_worked g.F.Format.meaning g.U.Unit.meaning c.args.opening c.args.material.now c.as_slice.result.now _ c.as_slice.ensures.value c.in_ok-calls.ensures c.requires c.in-Ok.worked c.in-Ok.ensures c.as_slice-2.result.now c.as_slice-2.ensures.value in
    let fits : SFits w32 c.shared_exponent.result = search rules in
    job_listed worked _ c.in_ok-readings.ensures _ c.as_slice-3.ensures.value _ (to_z-of_z w32 c.shared_exponent.result fits ∙ c.shared_exponent.ensures) c.in_ok-lines.lines c.in_ok-lines.ensures
