use Rattle.std.proofs.Common.{false}
use Rattle.calls.specs.Lists.{misplaced}
use Rattle.calls.specs.Work.{events_of, opened_log}
use Rattle.calls.proofs.Results.{both_alike}
use Rattle.calls.proofs.working.work_both.Goals as goal

pub returns : goal.returns
returns g c =
    let left = c.work.ensures in
    let right = c.work-2.ensures in
    let events = events_of g.F.Format.meaning g.S.Sheet.meaning c.args.left c.args.left_calls.now in
    let others = events_of g.G.Format.meaning g.R.Sheet.meaning c.args.right c.args.right_calls.now in
    record {
      left = left;
      right = right;
      alike = both_alike g.F.Format.meaning g.U.Unit.meaning g.G.Format.meaning g.V.Unit.meaning (opened_log g.F.Format.meaning g.U.Unit.meaning c.args.left) (opened_log g.G.Format.meaning g.V.Unit.meaning c.args.right) events others
          (misplaced 0 false events) (misplaced 0 false others) c.work.result c.work-2.result left right;
    }
