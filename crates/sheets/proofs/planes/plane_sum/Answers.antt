use Rattle.std.proofs.Common.{◌≡◌, ◌+◌, ◌-◌, ◌*◌, ◌/◌, ◌<◌, ap, ◌∙◌, arith, rules, tests, w16}
use Rattle.std.proofs.lemmas.Nat.{mul-add-lt}
use Rattle.std.proofs.lemmas.Int.{ints, to_z-of_z}
use Rattle.std.proofs.iter.Serving.{serving}
use Rattle.sheets.specs.Packing.{bit_at}
use Rattle.sheets.proofs.Summing.{above, before_last, walked, all_above, term_small}
use Rattle.sheets.proofs.planes.plane_sum.Goals as goal

pub fold-requires-clause-callable : goal.fold-requires-clause-callable
fold-requires-clause-callable c = record {
  at = λ xs t q x u y w e.
      let so_far = walked c.args.bytes.now c.args.stride c.args.place c.args.planes _ _ xs _ t _ q y w c.requires.few (search rules) (search rules) (λ b small x q h. let last = term_small (bit_at c.args.bytes.now c.args.stride c.args.place x) in search (rules, tests)) in
      let room = before_last c.args.bytes.now c.args.stride c.args.place c.args.planes t.iter.end q.1 c.requires.few (omega (arith, e.1.0)) so_far.1 in
      let last = term_small (bit_at c.args.bytes.now c.args.stride c.args.place x) in
      let plane : x < c.args.planes = omega (arith, e.1.1, e.1.2, so_far.2) in
      let inside : x * c.args.stride + c.args.place / 8 < c.args.planes * c.args.stride = omega (arith, mul-add-lt x c.args.stride (c.args.place / 8) c.args.planes plane c.requires.inside) in
      let bytes = ap (λ f. f.0.now) so_far.0 in
      let stride = ap (λ f. f.1.now) so_far.0 in
      let place = ap (λ f. f.2.now) so_far.0 in
      grind (serving, arith, ints, so_far.0);
}

pub returns : goal.returns
returns c =
    let ran = c.fold.ensures.ran in
    let whole = walked c.args.bytes.now c.args.stride c.args.place c.args.planes _ _ ran.0 _ ran.2.1.0 _ _ ran.2.1.1 ran.3 c.requires.few (search rules) (search rules) (λ b small x q h. let last = term_small (bit_at c.args.bytes.now c.args.stride c.args.place x) in search (rules, tests)) in
    let done : ran.2.1.0.iter.end ≡ 0 = omega (arith, ran.2.1.2.1.0, whole.3, ap (λ r. r.start) c.rev.ensures.source) in
    let count : c.args.planes - ran.2.1.0.iter.end ≡ c.args.planes = omega (arith, done) in
    to_z-of_z w16 c.fold.result (search rules) ∙ whole.1 ∙ ap (above c.args.bytes.now c.args.stride c.args.place ran.2.1.0.iter.end) count
    ∙ ap (λ j. above c.args.bytes.now c.args.stride c.args.place j c.args.planes) done ∙ all_above c.args.bytes.now c.args.stride c.args.place c.args.planes
