-- A row's last place is one of the sheet's.
use Rattle.std.proofs.Common.{◌+◌, ◌-◌, ◌*◌, ◌<◌, arith}
use Rattle.std.proofs.lemmas.Bool.Decides.{nat_tests}
use Rattle.refusals.proofs.Refusing.{when_ok}
use Rattle.sheets.specs.Page.{outside_check}
use Rattle.sheets.proofs.Codes.{place_lt}
use Rattle.sheets.proofs.packed.PackedSheet.row.Goals as goal

pub weights-requires-clause-inside : goal.weights-requires-clause-inside
weights-requires-clause-inside g c =
    let extent = c.args.self.now.extent in
    let rows = extent.rows in
    let columns = extent.columns.count in
    let row = c.args.row in
    let placed = when_ok (outside_check rows columns row 0) (row * columns + 0) c.in_ok-first.first c.in_ok-first.ensures in
    let there : row < rows = grind (arith, nat_tests, placed.0) in
    let last = place_lt rows columns row (columns - 1) there (omega (arith, extent.columns.some)) in
    omega (arith, placed.1, last, extent.columns.some, c.places-places.ensures.value, c.columns.ensures)
