-- The header of a job that was read.
use Rattle.std.proofs.Common.{◌≡◌, ℕ, ◌*◌, ◌/◌, List, length, take, drop, ℤ, Some, Ok, Err, Option, sym, ap, ◌∙◌, arith}
use Rattle.std.specs.Option.{option_and_then}
use Rattle.refusals.specs.declared.Refusal.{Refusal}
use Rattle.refusals.specs.Refusing.{first, answer, Made}
use Rattle.refusals.proofs.Refusing.{first_refuses, first_passes, made, unmade, was_made, was_refused, when_ok, when_err}
use Rattle.alignment.specs.Tile.{largest}
use Rattle.jobs.specs.declared.activations.Activations.{Activations}
use Rattle.jobs.specs.declared.codes.FormatCode.{FormatCode}
use Rattle.jobs.specs.declared.codes.FormatCode.TheVariants.{Binary16, Bfloat16, Binary32, Fixed8}
use Rattle.jobs.specs.declared.job.Job.{Job}
use Rattle.jobs.specs.declared.plan.Plan.{Plan}
use Rattle.jobs.specs.Activations.{format_of, held_words, section_words}
use Rattle.jobs.specs.Codes.{word_bytes}
use Rattle.jobs.specs.Job.{job_check, JobOf}
use Rattle.jobs.specs.declared.trailer.Trailer.{Trailer}
use Rattle.jobs.specs.Plan.{plan_of, activation_bytes}
use Rattle.jobs.specs.Survey.{coding_of, tiles_check, activation_words, surveyed, file_tile, header_check, header_of, HeaderOf}
use Rattle.jobs.specs.Trailer.{trailer_of}
use Rattle.jobs.specs.Words.{little, words_in}

-- of a file that holds no job nothing is made, whatever is checked behind
pub no_job : {X : Type 0} (file : List ℕ) (later : Option Refusal) (P : X → Type 0) (e : Refusal) → Made (job_check file) (JobOf file) (Err e) → Made (first (job_check file) later) P (Err e)
no_job file later P e why = unmade (first (job_check file) later) P e (first_refuses later (was_refused (job_check file) (JobOf file) e why))

-- a trailer asks for one plan
pub one_plan : (t : Trailer) (p q : Plan) → plan_of t ≡ Some p → plan_of t ≡ Some q → p ≡ q
one_plan t p q as_p as_q = let same : Some p ≡ Some q = sym as_p ∙ as_q in cc

-- the bytes of so many words are as many words
whole : (format : FormatCode) (rows n : ℕ) → n ≡ rows * word_bytes format → n / word_bytes format ≡ rows
whole Binary16 rows n e = omega (arith, e)
whole Bfloat16 rows n e = omega (arith, e)
whole Binary32 rows n e = omega (arith, e)
whole Fixed8 rows n e = omega (arith, e)

-- the words that a section holds, one for each row
pub one_each : (p : Plan) (bytes : List ℕ) → length bytes ≡ activation_bytes p → section_words p.format bytes ≡ activation_words p bytes
one_each p bytes long = ap (λ n. words_in (word_bytes p.format) little n bytes) (whole p.format p.rows (length bytes) long)

module _ (file : List ℕ) (job : Job) (read : Made (job_check file) (JobOf file) (Ok job)) (words : Activations)
    (format : format_of words ≡ job.plan.format) (held : held_words words ≡ section_words job.plan.format job.activations.bytes.now) where
  holds : JobOf file job
  holds = (was_made (job_check file) _ job read).1

  -- the words are those in the file
  same_words : held_words words ≡ activation_words job.plan (take (activation_bytes job.plan) (drop (trailer_of file).activations file))
  same_words = held ∙ one_each job.plan job.activations.bytes.now holds.activations.long ∙ ap (activation_words job.plan) holds.activations.holds

  same : surveyed (coding_of (format_of words)) (held_words words) ≡ answer (tiles_check 0 (file_tile file job.plan)) (largest (coding_of job.plan.format).least (file_tile file job.plan))
  same = ap (λ f. surveyed (coding_of f) (held_words words)) format ∙ ap (surveyed (coding_of job.plan.format)) same_words

  behind_job : header_check file ≡ tiles_check 0 (file_tile file job.plan)
  behind_job =
      first_passes _ (was_made (job_check file) (JobOf file) job read).0
      ∙ ap (option_and_then (λ q. tiles_check 0 (file_tile file q))) holds.plan

  pub not_all_finite : (e : Refusal) → Err e ≡ surveyed (coding_of (format_of words)) (held_words words) → Made (header_check file) (HeaderOf file) (Err e)
  not_all_finite e why = unmade (header_check file) _ e (behind_job ∙ when_err (tiles_check 0 (file_tile file job.plan)) _ e (why ∙ same))

  pub headed : (shared : ℤ) → Ok shared ≡ surveyed (coding_of (format_of words)) (held_words words)
      → Made (header_check file) (HeaderOf file) (Ok (record { rows = job.plan.rows; shared = shared; extra = job.plan.extra }))
  headed shared found =
      let ok = when_ok (tiles_check 0 (file_tile file job.plan)) (largest (coding_of job.plan.format).least (file_tile file job.plan)) shared (found ∙ same) in
      made (header_check file) (HeaderOf file) _ (behind_job ∙ ok.0)
      (λ q is. ap (λ (z : ℤ). record { rows = job.plan.rows; shared = z; extra = job.plan.extra }) ok.1 ∙ ap (header_of file) (one_plan (trailer_of file) job.plan q holds.plan is))
