use Rattle.std.proofs.Common.{◌≡◌, map, take, drop, None, vec_items}
use Rattle.runs.specs.Log.{Log, Holds}
use Rattle.calls.specs.Lists.{misplaced, answers_to, log_after}
use Rattle.calls.specs.Work.{event_of, state_of, format_of, is_aligned}
use Rattle.calls.proofs.working.work.Given as goal

-- after some of the calls: the rest is well placed, and whatever log the run began with, the answers so far are the log's, and
-- the run holds the log after them
abbrev pub invariant-loop-call : goal.invariant-loop-call
invariant-loop-call g l =
    let event = event_of (g.F.Format.meaning (format_of l.initial.run)) g.S.Sheet.meaning in
    let past = map event (take l.call-index l.calls) in
    (format_of l.run ≡ format_of l.initial.run)
    × (misplaced l.call-index (is_aligned l.run) (drop l.call-index (map event l.calls)) ≡ None)
    × ((m : Log) → Holds m (state_of g.F.Format.meaning g.U.Unit.meaning l.initial.run)
    → (vec_items l.answers ≡ answers_to m past) × Holds (log_after m past) (state_of g.F.Format.meaning g.U.Unit.meaning l.run))
