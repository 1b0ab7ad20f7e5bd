-- A file is read step by step: the trailer, its plan, and the two sections. The first step that is refused refuses the job.
use Rattle.std.proofs.Common.{◌≡◌, ℕ, List, length, Some, None, Ok, Err, Result, sym, ap, ◌∙◌, subst}
use Rattle.std.specs.Option.{option_and_then}
use Rattle.refusals.specs.declared.Refusal.{Refusal}
use Rattle.refusals.specs.Refusing.{Made}
use Rattle.refusals.proofs.Refusing.{first_refuses, first_passes, made, unmade, was_made, was_refused}
use Rattle.jobs.specs.declared.job.Job.{Job}
use Rattle.jobs.specs.declared.job.Section.{Section}
use Rattle.jobs.specs.declared.plan.Plan.{Plan}
use Rattle.jobs.specs.declared.trailer.Trailer.{Trailer}
use Rattle.jobs.specs.Job.{section_check, sections_check, trailer_check, job_check, SectionOf, JobOf}
use Rattle.jobs.specs.Plan.{plan_of, plan_check, activation_bytes, weight_bytes}
use Rattle.jobs.specs.Trailer.{file_check, trailer_of}

-- what cutting a section of n bytes out of the file answers
abbrev Cut : List ℕ → ℕ → ℕ → Result Section Refusal → Type 0
Cut file place n r = Made (section_check file place n) (SectionOf file place n) r

-- what reading the file answers
abbrev Reads : List ℕ → Result Job Refusal → Type 0
Reads file r = Made (job_check file) (JobOf file) r

module _ (file : List ℕ) (t : Trailer) (read : Made (file_check (length file)) (λ u. u ≡ trailer_of file) (Ok t)) where
  is : t ≡ trailer_of file
  is = (was_made (file_check (length file)) _ t read).1

  behind_file : job_check file ≡ trailer_check file t
  behind_file = first_passes _ (was_made (file_check (length file)) (λ u. u ≡ trailer_of file) t read).0 ∙ ap (trailer_check file) (sym is)

  pub plan_refused : (e : Refusal) → Made (plan_check t) (λ p. plan_of t ≡ Some p) (Err e) → Reads file (Err e)
  plan_refused e why = unmade (job_check file) _ e (behind_file ∙ first_refuses _ (was_refused (plan_check t) (λ p. plan_of t ≡ Some p) e why))

  module _ (p : Plan) (known : Made (plan_check t) (λ q. plan_of t ≡ Some q) (Ok p)) (n : ℕ) (words : n ≡ activation_bytes p) where
    plan : plan_of t ≡ Some p
    plan = (was_made (plan_check t) _ p known).1

    behind_plan : job_check file ≡ sections_check file t p
    behind_plan = behind_file ∙ first_passes _ (was_made (plan_check t) (λ q. plan_of t ≡ Some q) p known).0 ∙ ap (option_and_then (sections_check file t)) plan

    -- the size as it was computed
    first_cut : (r : Result Section Refusal) → Cut file t.activations n r → Cut file t.activations (activation_bytes p) r
    first_cut r = subst (λ k. Cut file t.activations k r) words

    pub first_refused : (e : Refusal) → Cut file t.activations n (Err e) → Reads file (Err e)
    first_refused e why =
        unmade (job_check file) _ e (behind_plan ∙ first_refuses _ (was_refused (section_check file t.activations (activation_bytes p)) (SectionOf file t.activations (activation_bytes p)) e (first_cut (Err e) why)))

    module _ (a : Section) (stands : Cut file t.activations n (Ok a)) (m : ℕ) (sheets : m ≡ weight_bytes p) where
      second_cut : (r : Result Section Refusal) → Cut file t.weights m r → Cut file t.weights (weight_bytes p) r
      second_cut r = subst (λ k. Cut file t.weights k r) sheets

      activations : (section_check file t.activations (activation_bytes p) ≡ None) × SectionOf file t.activations (activation_bytes p) a
      activations = was_made (section_check file t.activations (activation_bytes p)) _ a (first_cut (Ok a) stands)

      behind_first : job_check file ≡ section_check file t.weights (weight_bytes p)
      behind_first = behind_plan ∙ first_passes _ activations.0

      pub second_refused : (e : Refusal) → Cut file t.weights m (Err e) → Reads file (Err e)
      second_refused e why =
          unmade (job_check file) _ e (behind_first ∙ was_refused (section_check file t.weights (weight_bytes p)) (SectionOf file t.weights (weight_bytes p)) e (second_cut (Err e) why))

      pub whole : (w : Section) → Cut file t.weights m (Ok w) → Reads file (Ok (record { plan = p; activations = a; weights = w }))
      whole w also =
          let weights = was_made (section_check file t.weights (weight_bytes p)) (SectionOf file t.weights (weight_bytes p)) w (second_cut (Ok w) also) in
          made (job_check file) _ _ (behind_first ∙ weights.0) (record {
            plan = subst (λ u. plan_of u ≡ Some p) is plan;
            activations = subst (λ u. SectionOf file u.activations (activation_bytes p) a) is activations.1;
            weights = subst (λ u. SectionOf file u.weights (weight_bytes p) w) is weights.1;
          })
