-- A job that was read: its plan is fair, and its words are one for each row.
use Rattle.std.proofs.Common.{◌≡◌, ℕ, zero, suc, ◌≤◌, Bool, true, false, cond, not, ◌||◌, eqb, ltb, List, [], ◌∷◌, length, drop, is_some, Some, None, Ok, Err, Option, Result, sym, refl, ap, ◌∙◌, subst, arith}
use Rattle.std.specs.List.{AllByRecursion}
use Rattle.std.proofs.lemmas.List.{length-map}
use Rattle.std.proofs.lemmas.Bool.{ltb-false}
use Rattle.std.proofs.lemmas.Bool.Decides.{nat_tests}
use Rattle.std.specs.Option.{option_and_then}
use Rattle.std.proofs.lemmas.Option.{option_and_then_some}
use Rattle.refusals.specs.declared.Refusal.{Refusal}
use Rattle.refusals.specs.declared.Refusal.TheVariants.{UnknownCode}
use Rattle.columns.specs.Columns.{columns_check}
use Rattle.refusals.specs.Refusing.{first, Made}
use Rattle.refusals.proofs.Refusing.{passed, both_passed, first_passes, was_made}
use Rattle.alignment.specs.Tile.{Tile, tile_of, extra_check}
use Rattle.sheets.specs.Code.{coded, sheet_codes, sheet_number}
use Rattle.sheets.specs.Making.{planes_check}
use Rattle.listing.specs.declared.Listing.{Listing}
use Rattle.jobs.specs.declared.codes.FormatCode.{FormatCode}
use Rattle.jobs.specs.declared.job.Job.{Job}
use Rattle.jobs.specs.declared.plan.Plan.{Plan}
use Rattle.jobs.specs.declared.trailer.Trailer.{Trailer}
use Rattle.jobs.specs.Activations.{section_words}
use Rattle.jobs.specs.Codes.{format_codes, format_number, unit_codes, unit_number, word_bytes}
use Rattle.jobs.specs.declared.error.JobError.{JobError}
use Rattle.jobs.specs.declared.error.JobError.TheVariants.{Refused, Memory}
use Rattle.jobs.specs.Error.{MadeInMemory}
use Rattle.jobs.specs.Job.{job_check, JobOf, trailer_check}
use Rattle.jobs.specs.Plan.{plan_of, plan_check, unknown, activation_bytes}
use Rattle.jobs.specs.Survey.{coding_of, activations_tile, file_tile}
use Rattle.jobs.specs.Trailer.{trailer_of}
use Rattle.jobs.specs.Words.{little, words_in}
use Rattle.jobs.proofs.Heading.{one_each, one_plan}
use Rattle.job_runs.specs.declared.material.Material.{Material}
use Rattle.job_runs.specs.Parts.{Fair, file_sheets}
use Rattle.job_runs.specs.Events.{job_answers}
use Rattle.job_runs.specs.Readings.{first_refusal}
use Rattle.job_runs.specs.Listing.{Lists, ListedAs, ListingOf, listing_check}
use Rattle.job_runs.specs.Refused.{run_check}
use Rattle.job_runs.proofs.Faults.{refused_as}

-- ---- the words
pub words_long : {W : Type 0} (width : ℕ) (spelled : List ℕ → W) (n : ℕ) (bytes : List ℕ) → length (words_in width spelled n bytes) ≡ n
words_long width spelled zero bytes = refl
words_long width spelled (suc n) bytes = ap suc (words_long width spelled n (drop width bytes))

-- the words that the section of a plan holds are as many as its rows
pub as_many : (p : Plan) (bytes : List ℕ) → length bytes ≡ activation_bytes p → (ws : List ℕ) → ws ≡ section_words p.format bytes → length ws ≡ p.rows
as_many p bytes long ws words = ap length (words ∙ one_each p bytes long) ∙ words_long (word_bytes p.format) little p.rows bytes

-- the listing of such words, by their code, is that of the section
pub same_listed : (job : Job) (code : FormatCode) (m : Material ℕ) (r : Result Listing JobError) → length job.activations.bytes.now ≡ activation_bytes job.plan
    → code ≡ job.plan.format → m.plan ≡ job.plan → m.words.now ≡ section_words job.plan.format job.activations.bytes.now → m.weights.now ≡ job.weights.bytes.now
    → ListedAs m.plan (tile_of (coding_of code) m.words.now) m.weights.now r → ListedAs job.plan (activations_tile job.plan job.activations.bytes.now) job.weights.bytes.now r
same_listed job code m r long format plan words weights listed =
    let p = job.plan in
    let decoded : tile_of (coding_of code) m.words.now ≡ activations_tile p job.activations.bytes.now =
    ap (λ f. tile_of (coding_of f) m.words.now) format ∙ ap (tile_of (coding_of p.format)) (words ∙ one_each p job.activations.bytes.now long) in
    subst (λ (sheets : List ℕ). ListedAs p (activations_tile p job.activations.bytes.now) sheets r) weights
    (subst (λ (ws : Tile). ListedAs p ws m.weights.now r) decoded
    (subst (λ (q : Plan). ListedAs q (tile_of (coding_of code) m.words.now) m.weights.now r) plan listed))

-- ---- the plan
coded_in : {C : Type 0} (P : C → Type 0) (number : C → ℕ) (codes : List C) (n : ℕ) (c : C) → AllByRecursion P codes → coded number codes n ≡ Some c → P c
coded_in P number [] n c all e = let z : ◌≡◌ {A = ℕ} 0 1 = cc in absurd (omega arith)
coded_in {C} P number (d ∷ codes) n c all e = by (eqb n (number d)) e (coded_in P number codes n c all.1)
  where
    by : (b : Bool) → cond b (Some d) (coded number codes n) ≡ Some c → (coded number codes n ≡ Some c → P c) → P c
    by true is later = let same : d ≡ c = cc in subst P same all.0
    by false is later = later is

-- the plan of a trailer has the trailer's rows, columns and extra bits, and a packing that can be made
record OfTrailer (t : Trailer) (p : Plan) : Type 0 where
  rows : p.rows ≡ t.rows
  columns : p.columns ≡ t.columns
  extra : p.extra ≡ t.extra
  planes : planes_check p.sheet ≡ None

of_trailer : (t : Trailer) (p : Plan) → plan_of t ≡ Some p → OfTrailer t p
of_trailer t p e =
    option_and_then_some _ (coded format_number format_codes t.format) p e (λ format is_format with_format.
    option_and_then_some _ (coded sheet_number sheet_codes t.sheet) p with_format (λ sheet is_sheet with_sheet.
    option_and_then_some _ (coded unit_number unit_codes t.unit) p with_sheet (λ unit is_unit with_unit.
    let made : record { rows = t.rows; columns = t.columns; format = format; sheet = sheet; extra = t.extra; unit = unit } ≡ p = some_same _ p with_unit in
    record {
      rows = sym (ap (λ (q : Plan). q.rows) made);
      columns = sym (ap (λ (q : Plan). q.columns) made);
      extra = sym (ap (λ (q : Plan). q.extra) made);
      planes = sym (ap (λ (q : Plan). planes_check q.sheet) made)
          ∙ coded_in (λ c. planes_check c ≡ None) sheet_number sheet_codes t.sheet sheet (refl, (refl, (refl, (refl, (refl, (refl, (refl, (refl, (refl, (refl, tt)))))))))) is_sheet;
    })))
  where
    some_same : (x y : Plan) → Some x ≡ Some y → x ≡ y
    some_same x y same = cc

few_rows : (t : Trailer) → unknown t ≡ false → t.rows ≤ 4096
few_rows t e = ltb-false 4096 t.rows (last (not (eqb t.mark 0x54)) (not (is_some (plan_of t))) (ltb 4096 t.rows) e)
  where
    last : (a b c : Bool) → (a || b || c) ≡ false → c ≡ false
    last a b c e = grind (arith, nat_tests)

-- what was made, within memory, has what follows from its own
made_as : {X : Type 0} (o : Option Refusal) (P Q : X → Type 0) → ((x : X) → P x → Q x) → (r : Result X JobError) → MadeInMemory o P r → MadeInMemory o Q r
made_as None P Q so (Ok x) m = so x m
made_as (Some check) P Q so (Ok x) m = m
made_as None P Q so (Err (Refused e)) m = m
made_as (Some check) P Q so (Err (Refused e)) m = m
made_as o P Q so (Err (Memory e)) m = tt

-- ---- a job that was read
module _ (file : List ℕ) (job : Job) (read : Made (job_check file) (JobOf file) (Ok job)) where
  accepted : job_check file ≡ None
  accepted = (was_made (job_check file) (JobOf file) job read).0

  pub holds : JobOf file job
  holds = (was_made (job_check file) (JobOf file) job read).1

  trailer_accepted : plan_check (trailer_of file) ≡ None
  trailer_accepted = (both_passed _ _ (both_passed _ (trailer_check file (trailer_of file)) accepted).1).0

  parts : OfTrailer (trailer_of file) job.plan
  parts = of_trailer (trailer_of file) job.plan holds.plan

  known : (unknown (trailer_of file) ≡ false) × (first (columns_check (trailer_of file).columns) (extra_check (trailer_of file).extra) ≡ None)
  known = passed _ UnknownCode _ trailer_accepted

  pub is_fair : Fair job.plan
  is_fair =
      let ranges = both_passed (columns_check (trailer_of file).columns) (extra_check (trailer_of file).extra) known.1 in
      record { columns = ap columns_check parts.columns ∙ ranges.0; planes = parts.planes; extra = ap extra_check parts.extra ∙ ranges.1 }

  rows_few : job.plan.rows ≤ 4096
  rows_few = omega (arith, parts.rows, few_rows (trailer_of file) known.0)

  -- the sections hold what the file does
  pub read_listed : (r : Result Listing JobError) → ListedAs job.plan (activations_tile job.plan job.activations.bytes.now) job.weights.bytes.now r → MadeInMemory (listing_check file) (ListingOf file) r
  read_listed r m =
      made_as (listing_check file) (Lists job.plan (file_tile file job.plan) (file_sheets file job.plan)) (ListingOf file)
      (λ listing lists q is. subst (λ (x : Plan). Lists x (file_tile file x) (file_sheets file x) listing) (one_plan (trailer_of file) job.plan q holds.plan is) lists)
      r (subst (λ o. MadeInMemory o (Lists job.plan (file_tile file job.plan) (file_sheets file job.plan)) r) (sym checked) in_file)
    where
      long : length (file_tile file job.plan) ≡ job.plan.rows
      long = length-map _ (coding_of job.plan.format).decode ∙ words_long (word_bytes job.plan.format) little job.plan.rows _

      checked : listing_check file ≡ first_refusal (job_answers job.plan (file_tile file job.plan) (file_sheets file job.plan))
      checked =
          first_passes _ accepted ∙ ap (option_and_then (λ q. run_check q (file_tile file q) (file_sheets file q))) holds.plan
          ∙ sym (refused_as job.plan (file_tile file job.plan) (file_sheets file job.plan) long rows_few)

      in_file : ListedAs job.plan (file_tile file job.plan) (file_sheets file job.plan) r
      in_file =
          subst (λ (sheets : List ℕ). ListedAs job.plan (file_tile file job.plan) sheets r) holds.weights.holds
          (subst (λ (bytes : List ℕ). ListedAs job.plan (activations_tile job.plan bytes) job.weights.bytes.now r) holds.activations.holds m)
