use Rattle.std.proofs.Common.{sym, ap, ◌∙◌, arith}
use Rattle.std.proofs.lemmas.List.{length-map}
use Rattle.refusals.specs.Refusing.{verdict}
use Rattle.refusals.proofs.Refusing.{refused}
use Rattle.runs.specs.State.{setting_of}
use Rattle.runs.specs.Runs.{aligned}
use Rattle.runs.proofs.Tiles.{feed_many, feed_words, feed_columns, feed_over, feed_in_rows}
use Rattle.runs.proofs.AlignedRun.check_tile.Goals as goal

pub returns-then-words-gt-TILE_WORDS : goal.returns-then-words-gt-TILE_WORDS
returns-then-words-gt-TILE_WORDS g c =
    let size = length-map c.args.words.now (g.F.Format.meaning c.args.self.now.format).decode in
    let z = setting_of (aligned g.F.Format.meaning g.U.Unit.meaning c.args.self.now) in
    refused tt (feed_many z _ _ _ (g.S.Sheet.meaning c.args.sheet.now) (omega (arith, size, c.if-words-gt-TILE_WORDS.true)))

pub returns-then-words-rows : goal.returns-then-words-rows
returns-then-words-rows g c =
    let size = length-map c.args.words.now (g.F.Format.meaning c.args.self.now.format).decode in
    let z = setting_of (aligned g.F.Format.meaning g.U.Unit.meaning c.args.self.now) in
    refused tt (feed_words z _ _ _ (g.S.Sheet.meaning c.args.sheet.now) (omega (arith, size, c.if-words-gt-TILE_WORDS.false)) (λ e. omega (arith, e, size, c.rows.ensures, c.if-words-rows.true)))

pub returns-then-columns : goal.returns-then-columns
returns-then-columns g c =
    let size = length-map c.args.words.now (g.F.Format.meaning c.args.self.now.format).decode in
    let z = setting_of (aligned g.F.Format.meaning g.U.Unit.meaning c.args.self.now) in
    refused tt (feed_columns z _ _ _ (g.S.Sheet.meaning c.args.sheet.now) (omega (arith, size, c.if-words-gt-TILE_WORDS.false)) (omega (arith, size, c.rows.ensures, c.if-words-rows.false)) (λ e. omega (arith, e, c.columns.ensures, c.columns-2.ensures, c.if-columns.true)))

pub returns-then-rows-words : goal.returns-then-rows-words
returns-then-rows-words g c =
    let size = length-map c.args.words.now (g.F.Format.meaning c.args.self.now.format).decode in
    let z = setting_of (aligned g.F.Format.meaning g.U.Unit.meaning c.args.self.now) in
    refused tt (feed_over z _ _ _ (g.S.Sheet.meaning c.args.sheet.now) (omega (arith, size, c.if-words-gt-TILE_WORDS.false)) (omega (arith, size, c.rows.ensures, c.if-words-rows.false)) (omega (arith, c.columns.ensures, c.columns-2.ensures, c.if-columns.false))
    (omega (arith, size, c.rows-2.ensures, c.max-rows.ensures, c.limit.ensures, c.if-rows-words.true)))

pub returns : goal.returns
returns g c =
    let size = length-map c.args.words.now (g.F.Format.meaning c.args.self.now.format).decode in
    let z = setting_of (aligned g.F.Format.meaning g.U.Unit.meaning c.args.self.now) in
    c.check_rows.ensures
    ∙ ap verdict (sym (feed_in_rows z _ _ _ (g.S.Sheet.meaning c.args.sheet.now) (omega (arith, size, c.if-words-gt-TILE_WORDS.false)) (omega (arith, size, c.rows.ensures, c.if-words-rows.false)) (omega (arith, c.columns.ensures, c.columns-2.ensures, c.if-columns.false))
    (omega (arith, size, c.rows-2.ensures, c.max-rows.ensures, c.limit.ensures, c.if-rows-words.false))))
