use Rattle.std.proofs.Common.{◌<◌, sym, ap, ◌∙◌, arith, w32, w64, SFits, rules}
use Rattle.std.proofs.lemmas.Int.{to_z-of_z}
use Rattle.refusals.proofs.Refusing.{accepted, when_ok}
use Rattle.units.specs.Meaning.{column_check, columns_of}
use Rattle.units.proofs.Checks.{total_read}
use Rattle.runs.specs.Checks.{Setting}
use Rattle.runs.proofs.Alike.{figures_are}
use Rattle.runs.proofs.Holding.{sound}
use Rattle.runs.proofs.AlignedRun.read.Goals as goal

pub returns : goal.returns
returns g c =
    let unit = g.U.Unit.meaning c.args.self.now.unit in
    let column = c.args.column in
    let asked = c.in_ok-total.ensures in
    let ok = (when_ok (column_check (columns_of unit) column) _ _ asked).0 in
    let there = total_read unit column _ (sym asked) in
    let fits : SFits w64 c.in_ok-total.total = search rules in
    let fits_exponent : SFits w32 c.exponent-exponent.result = search rules in
    let total = to_z-of_z w64 c.in_ok-total.total fits ∙ there.1 in
    let exponent = to_z-of_z w32 c.exponent-exponent.result fits_exponent ∙ c.exponent-exponent.ensures in
    record {
      answers = accepted ok (figures_are _ _ _ _ _ _ total exponent c.nearest_binary32.ensures.value);
      nearest = c.nearest_binary32.ensures.nearest;
      tells = λ l h. let k : column < l.setting.columns = omega (arith, there.0, ap (λ (z : Setting). z.columns) h.setting) in rw total (sound l _ h column k).tells;
    }
