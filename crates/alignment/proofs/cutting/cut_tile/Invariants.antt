use Rattle.alignment.proofs.Rows.{CutTo}
use Rattle.alignment.proofs.cutting.cut_tile.Given as goal

abbrev pub invariant-loop-row : goal.invariant-loop-row
invariant-loop-row g l = CutTo l.step (g.F.Format.meaning l.format).decode l.words l.row l.cuts.items
