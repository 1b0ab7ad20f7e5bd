-- What a trailer asks for, once its codes are known.
use Rattle.std.proofs.Common.{◌≡◌, ℕ, ◌≤◌, Some, None, Ok, Err, Option, sym, refl, ap, ◌∙◌, arith}
use Rattle.std.proofs.lemmas.Bool.Decides.{nat_tests}
use Rattle.refusals.specs.declared.Refusal.{Refusal}
use Rattle.refusals.specs.declared.Refusal.TheVariants.{UnknownCode}
use Rattle.refusals.specs.Refusing.{refuse, Made}
use Rattle.refusals.proofs.Refusing.{first_refuses, first_passes, unmade, was_made, was_refused}
use Rattle.columns.specs.Columns.{columns_check}
use Rattle.alignment.specs.Tile.{extra_check}
use Rattle.sheets.specs.Code.{coded, known, sheet_codes, sheet_number}
use Rattle.sheets.specs.declared.code.SheetCode.{SheetCode}
use Rattle.jobs.specs.declared.codes.FormatCode.{FormatCode}
use Rattle.jobs.specs.declared.codes.UnitCode.{UnitCode}
use Rattle.jobs.specs.declared.trailer.Trailer.{Trailer}
use Rattle.jobs.specs.Codes.{format_codes, format_number, unit_codes, unit_number}
use Rattle.jobs.specs.Plan.{plan_of, plan_check, unknown}

-- a code that is known stands for something
stands_for : {C : Type 0} (o : Option C) (c : C) → Ok c ≡ known o → o ≡ Some c
stands_for None c e = let z : ◌≡◌ {A = ℕ} 0 1 = cc in absurd (omega arith)
stands_for (Some d) c e = cc

module _ (t : Trailer) (format : FormatCode) (sheet : SheetCode) (unit : UnitCode)
    (is_format : Ok format ≡ known (coded format_number format_codes t.format)) (is_sheet : Ok sheet ≡ known (coded sheet_number sheet_codes t.sheet)) (is_unit : Ok unit ≡ known (coded unit_number unit_codes t.unit))
    (mark : t.mark ≡ 0x54) (rows : t.rows ≤ 4096) where
  planned : plan_of t ≡ Some (record { rows = t.rows; columns = t.columns; format = format; sheet = sheet; extra = t.extra; unit = unit })
  planned =
      let f = stands_for (coded format_number format_codes t.format) format is_format in
      let s = stands_for (coded sheet_number sheet_codes t.sheet) sheet is_sheet in
      let u = stands_for (coded unit_number unit_codes t.unit) unit is_unit in
      rw (f, s, u) refl

  codes_known : refuse (unknown t) UnknownCode ≡ None
  codes_known = rw planned (grind (arith, nat_tests))

  module _ (columns : ℕ) (as_many : columns ≡ t.columns) where
    pub columns_refused : {X : Type 0} (P : X → Type 0) (e : Refusal) → Made (columns_check columns) P (Err e) → Made (plan_check t) (λ p. plan_of t ≡ Some p) (Err e)
    columns_refused P e why = unmade (plan_check t) _ e (first_passes _ codes_known ∙ first_refuses _ (ap columns_check (sym as_many) ∙ was_refused (columns_check columns) P e why))

    module _ {X : Type 0} (P : X → Type 0) (x : X) (checked : Made (columns_check columns) P (Ok x)) (extra : ℕ) (is_extra : extra ≡ t.extra) where
      behind_columns : plan_check t ≡ extra_check extra
      behind_columns = first_passes _ codes_known ∙ first_passes _ (ap columns_check (sym as_many) ∙ (was_made (columns_check columns) P x checked).0) ∙ ap extra_check (sym is_extra)

      pub extra_refused : {Y : Type 0} (Q : Y → Type 0) (e : Refusal) → Made (extra_check extra) Q (Err e) → Made (plan_check t) (λ p. plan_of t ≡ Some p) (Err e)
      extra_refused Q e why = unmade (plan_check t) _ e (behind_columns ∙ was_refused (extra_check extra) Q e why)
