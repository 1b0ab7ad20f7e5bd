use Rattle.std.proofs.Common.{◌≡◌, ◌<◌, ◌≤◌, map, length, get_or, None, fold, sym, refl, ap, ◌∙◌, arith}
use Rattle.std.proofs.lemmas.List.{length-map, get_or-map}
use Rattle.std.proofs.lemmas.List.FromFn.{length-map-range_with_len}
use Rattle.refusals.proofs.Refusing.{made_ok, when_ok, when_made, accepted, changed}
use Rattle.alignment.specs.Cutting.{nothing, aligned as aligned_number, cut_check}
use Rattle.units.specs.Meaning.{first_untaken}
use Rattle.runs.specs.Checks.{Setting}
use Rattle.runs.specs.State.{setting_of, step_size, put, add_row, rows_of, fed_check}
use Rattle.runs.specs.Runs.{aligned}
use Rattle.runs.proofs.Feeding.{midway_all, midway_taken, midway_more}
use Rattle.runs.proofs.Holding.{logged_feed}
use Rattle.runs.proofs.Tiles.{passes}
use Rattle.runs.proofs.AlignedRun.feed.Goals as goal

-- a tile that passed its checks can be cut
pub unwrap-cuts-requires : goal.unwrap-cuts-requires
unwrap-cuts-requires g c =
    let run = c.args.self.now in
    let s = aligned g.F.Format.meaning g.U.Unit.meaning run in
    let tile = map (g.F.Format.meaning run.format).decode c.args.words.now in
    let page = g.S.Sheet.meaning c.args.sheet.now in
    let ok = passes (setting_of s) _ _ tile page (when_ok (fed_check s tile page) _ _ c.in_ok-check_tile.ensures).0 in
    made_ok (cut_check s.shared tile) _ _ ok.cuttable c.cut_tile.ensures.made

pub add_row-requires-clause-columns : goal.add_row-requires-clause-columns
add_row-requires-clause-columns g c =
    let run = c.args.self.now in
    let s = aligned g.F.Format.meaning g.U.Unit.meaning run in
    let tile = map (g.F.Format.meaning run.format).decode c.args.words.now in
    let page = g.S.Sheet.meaning c.args.sheet.now in
    let ok = passes (setting_of s) _ _ tile page (when_ok (fed_check s tile page) _ _ c.in_ok-check_tile.ensures).0 in
    ap length c.line_of.ensures ∙ length-map-range_with_len (page.weight c.loop-row.row) 0 page.columns ∙ ok.as_wide ∙ sym (ap (λ (z : Setting). z.columns) c.loop-row.invariant.1.setting)

pub add_row-requires-clause-taken : goal.add_row-requires-clause-taken
add_row-requires-clause-taken g c =
    let run = c.args.self.now in
    let s = aligned g.F.Format.meaning g.U.Unit.meaning run in
    let here = aligned g.F.Format.meaning g.U.Unit.meaning c.loop-row.self in
    let tile = map (g.F.Format.meaning run.format).decode c.args.words.now in
    let page = g.S.Sheet.meaning c.args.sheet.now in
    let i = c.loop-row.row in
    let cut = when_made (cut_check s.shared tile) (λ v. v.items ≡ map (aligned_number (step_size s)) tile) c.cut_tile.result c.unwrap-cuts.result c.unwrap-cuts.ensures c.cut_tile.ensures.made in
    let items : c.deref-cut-items.result.now ≡ map (aligned_number (step_size s)) tile = c.deref-cut-items.ensures.0 ∙ cut.1 in
    let inside : i < length tile = omega (arith, ap length items, length-map tile (aligned_number (step_size s)), c.loop-row-test.true) in
    ap (first_untaken here.unit.takes) c.line_of.ensures ∙ midway_taken s here page tile i c.loop-row.invariant.1 inside

pub loop-row-preserved : goal.loop-row-preserved
loop-row-preserved g c =
    let run = c.args.self.now in
    let s = aligned g.F.Format.meaning g.U.Unit.meaning run in
    let here = aligned g.F.Format.meaning g.U.Unit.meaning c.loop-row.self in
    let tile = map (g.F.Format.meaning run.format).decode c.args.words.now in
    let page = g.S.Sheet.meaning c.args.sheet.now in
    let i = c.loop-row.row in
    let cut = when_made (cut_check s.shared tile) (λ v. v.items ≡ map (aligned_number (step_size s)) tile) c.cut_tile.result c.unwrap-cuts.result c.unwrap-cuts.ensures c.cut_tile.ensures.made in
    let items : c.deref-cut-items.result.now ≡ map (aligned_number (step_size s)) tile = c.deref-cut-items.ensures.0 ∙ cut.1 in
    let inside : i < length tile = omega (arith, ap length items, length-map tile (aligned_number (step_size s)), c.loop-row-test.true) in
    let cut_here = get_or c.deref-cut-items.result.now i nothing in
    let is = ap (λ cuts. get_or cuts i nothing) items ∙ get_or-map (aligned_number (step_size s)) tile i None nothing inside in (
      c.add_row.ensures.format ∙ c.loop-row.invariant.0,
      midway_more s here page tile i c.loop-row.invariant.1 inside _ _ is (c.add_row.ensures.puts ∙ ap (put here cut_here.number cut_here.lost) c.line_of.ensures),
    )

pub returns : goal.returns
returns g c =
    let run = c.args.self.now in
    let s = aligned g.F.Format.meaning g.U.Unit.meaning run in
    let tile = map (g.F.Format.meaning run.format).decode c.args.words.now in
    let page = g.S.Sheet.meaning c.args.sheet.now in
    let ok = (when_ok (fed_check s tile page) _ _ c.in_ok-check_tile.ensures).0 in
    let cut = when_made (cut_check s.shared tile) (λ v. v.items ≡ map (aligned_number (step_size s)) tile) c.cut_tile.result c.unwrap-cuts.result c.unwrap-cuts.ensures c.cut_tile.ensures.made in
    let items : c.deref-cut-items.result.now ≡ map (aligned_number (step_size s)) tile = c.deref-cut-items.ensures.0 ∙ cut.1 in
    let all : length tile ≤ c.loop-row.row = omega (arith, ap length items, length-map tile (aligned_number (step_size s)), c.loop-row-test.false) in
    let same = midway_all s _ page tile c.loop-row.row c.loop-row.invariant.1 all ∙ changed s (fold add_row s (rows_of page 0 tile)) ok in
    record { answers = accepted ok refl; format = c.loop-row.invariant.0; feeds = same; logs = logged_feed s _ tile page refl same }
