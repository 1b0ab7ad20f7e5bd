use Rattle.std.proofs.Common.{List, ℤ, Err, Option, sym, refl, ap, ◌∙◌}
use Rattle.std.proofs.lemmas.Result.{err_from_is_err_and}
use Rattle.refusals.specs.declared.Refusal.{Refusal}
use Rattle.refusals.proofs.Refusing.{when_ok, when_err, refused, accepted}
use Rattle.alignment.proofs.Surveying.{tile_all}
use Rattle.runs.specs.Checks.{row_check, rows_check}
use Rattle.runs.proofs.Tiles.{rows_more, rows_here}
use Rattle.runs.proofs.AlignedRun.check_rows.Goals as goal

pub returns-in_err-check_row : goal.returns-in_err-check_row
returns-in_err-check_row g c =
    let run = c.args.self.now in
    let row = c.loop-row.row in
    let word = c.index-words-row.result in
    let page = g.S.Sheet.meaning c.args.sheet.now in
    let check : List ℤ → Option Refusal = row_check run.step.shared.exponent (g.U.Unit.meaning run.unit).takes row ((g.F.Format.meaning run.format).decode word) in
    let p = err_from_is_err_and c.from_residual.result c.from_residual.ensures.1 in
    let faulty = sym (ap check c.line_of.ensures) ∙ when_err (check c.line_of.result.now) tt _ c.in_err-check_row.ensures in
    p.1 ∙ ap Err p.2
    ∙ refused tt (c.loop-row.invariant ∙ rows_here (g.F.Format.meaning run.format).decode c.args.words.now row word c.loop-row-test.true c.index-words-row.is _ _ page _ faulty)

pub loop-row-preserved : goal.loop-row-preserved
loop-row-preserved g c =
    let run = c.args.self.now in
    let row = c.loop-row.row in
    let word = c.index-words-row.result in
    let page = g.S.Sheet.meaning c.args.sheet.now in
    let check : List ℤ → Option Refusal = row_check run.step.shared.exponent (g.U.Unit.meaning run.unit).takes row ((g.F.Format.meaning run.format).decode word) in
    let ok = sym (ap check c.line_of.ensures) ∙ (when_ok (check c.line_of.result.now) tt tt c.in_ok-check_row.ensures).0 in
    c.loop-row.invariant ∙ rows_more (g.F.Format.meaning run.format).decode c.args.words.now row word c.loop-row-test.true c.index-words-row.is _ _ page ok

pub returns : goal.returns
returns g c =
    let run = c.args.self.now in
    let done = tile_all (g.F.Format.meaning run.format).decode c.args.words.now c.loop-row.row c.loop-row-test.false in
    let rest = rows_check run.step.shared.exponent (g.U.Unit.meaning run.unit).takes (g.S.Sheet.meaning c.args.sheet.now) c.loop-row.row in
    accepted (c.loop-row.invariant ∙ ap rest done) refl
