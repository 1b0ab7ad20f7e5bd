-- Where no check refuses, the loop fills the whole buffer.
use Rattle.std.proofs.Common.{◌≡◌, length, pos, None, ◌∙◌, rules}
use Rattle.std.proofs.lemmas.List.FromFn.{fill_by_all}
use Rattle.refusals.proofs.Refusing.{changed}
use Rattle.sheets.specs.Page.{row_check, line}
use Rattle.sheets.proofs.Sheet.row.Goals as goal

pub returns-clause-writes : goal.returns-clause-writes
returns-clause-writes g c =
    let m = g.Self.Sheet.meaning c.args.self.now in
    let taken : row_check m c.args.row (length c.args.buffer.now) ≡ None = search rules in
    let full : c.loop-column.buffer ≡ line m c.args.row =
    fill_by_all (m.weight c.args.row) c.loop-column.buffer m.columns (pos 0) (search rules) (λ k h. c.loop-column.invariant k (search rules)) in
    full ∙ changed c.args.buffer.now (line m c.args.row) taken
