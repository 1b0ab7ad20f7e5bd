use Rattle.std.proofs.Common.{rules}
use Rattle.sheets.proofs.Codes.{place_lt}
use Rattle.sheets.proofs.packed.PackedSheet.weight.Goals as goal

pub weight-requires-clause-inside : goal.weight-requires-clause-inside
weight-requires-clause-inside g c = let place = place_lt c.args.self.now.extent.rows c.args.self.now.extent.columns.count c.args.row c.args.column in search rules
