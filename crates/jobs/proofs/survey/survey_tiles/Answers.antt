use Rattle.std.proofs.Common.{map, Err, sym, ap, ◌∙◌, arith}
use Rattle.std.specs.Slice.Iter.{chunks_rest, chunks_size}
use Rattle.std.proofs.lemmas.Result.{err_from_is_err_and}
use Rattle.refusals.proofs.Refusing.{refused, was_made, was_refused}
use Rattle.alignment.specs.Tile.{survey_check, largest}
use Rattle.jobs.proofs.Tiles.{next_passed, next_faulty, next_largest}
use Rattle.jobs.proofs.survey.survey_tiles.Goals as goal

pub returns-in_err-shared : goal.returns-in_err-shared
returns-in_err-shared g c =
    let f = (g.F.Format.meaning c.args.format.now).decode in
    let tile = c.in-Some.tile.now in
    let parts = c.in-Some.ensures.steps.1 in
    let p = err_from_is_err_and c.from_residual.result c.from_residual.ensures.1 in
    let faulty = was_refused (survey_check (map f tile)) _ _ c.in_err-shared.ensures.made in
    p.1 ∙ ap Err p.2
    ∙ refused _ (c.loop-tile.invariant.3 ∙ next_faulty f (chunks_rest c.loop-tile.tile-iterator) tile (chunks_rest c.next.new.self) (chunks_size c.loop-tile.tile-iterator) parts.0 parts.1 c.loop-tile.invariant.2 _ faulty)

pub loop-tile-preserved : goal.loop-tile-preserved
loop-tile-preserved g c =
    let f = (g.F.Format.meaning c.args.format.now).decode in
    let tile = c.in-Some.tile.now in
    let rest = chunks_rest c.loop-tile.tile-iterator in
    let more = chunks_rest c.next.new.self in
    let size = c.in-Some.ensures.steps.0 ∙ c.loop-tile.invariant.2 in
    let parts = c.in-Some.ensures.steps.1 in
    let ok = was_made (survey_check (map f tile)) _ _ c.in_ok-shared.ensures.made in (
      omega (arith, size),
      tt,
      size,
      c.loop-tile.invariant.3 ∙ next_passed f rest tile more (chunks_size c.loop-tile.tile-iterator) parts.0 parts.1 c.loop-tile.invariant.2 ok.0,
      c.loop-tile.invariant.4 ∙ next_largest f rest tile more (chunks_size c.loop-tile.tile-iterator) parts.0 parts.1 c.loop-tile.invariant.2 c.loop-tile.shared.exponent
          ∙ ap (λ m. largest m (map f more)) (sym ok.1),
    )
