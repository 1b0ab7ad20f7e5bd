-- The loop fills the whole buffer.
use Rattle.std.proofs.Common.{ℕ, ◌+◌, length, ℤ, pos, rules}
use Rattle.std.proofs.lemmas.List.FromFn.{fill_by_all}
use Rattle.sheets.specs.Packing.{weight_at}
use Rattle.sheets.proofs.packing.Packing.weights.Goals as goal

pub returns : goal.returns
returns g c =
    let weight : ℕ → ℤ = λ k. weight_at (g.Self.Packing.code c.args.self) c.args.places c.args.bytes.now (c.args.first + k) in
    fill_by_all weight c.loop-k.buffer (length c.args.buffer.now) (pos 0) (search rules) (λ k h. c.loop-k.invariant k (search rules))
