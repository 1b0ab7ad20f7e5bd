use Rattle.std.proofs.Common.{◌≡◌, false, map, drop}
use Rattle.formats.specs.Coding.{Coding}
use Rattle.sheets.specs.Page.{Page}
use Rattle.calls.specs.Lists.{misplaced}
use Rattle.calls.specs.Stages.{aligned_at}
use Rattle.calls.specs.Work.{event_of}
use Rattle.calls.proofs.places.check_places.Given as goal

abbrev pub invariant-loop-place : goal.invariant-loop-place
invariant-loop-place g l =
    (f : Coding g.row.W.Denot) (page : g.row.S.Denot → Page) →
    misplaced 0 false (map (event_of f page) l.calls) ≡ misplaced l.place (aligned_at l.stage) (drop l.place (map (event_of f page) l.calls))
