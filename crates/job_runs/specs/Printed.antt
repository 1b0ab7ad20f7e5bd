-- What is printed of a file.
use Rattle.std.specs.Prelude.{ℕ, List, map}
use Rattle.std.specs.List.{range_with_len}
use Rattle.listing.specs.Lines.{listing_text}
use Rattle.jobs.specs.declared.plan.Plan.{Plan}
use Rattle.jobs.specs.Survey.{file_tile, job_header}
use Rattle.jobs.specs.Text.{PrintedBy}
use Rattle.job_runs.specs.Parts.{file_sheets}
use Rattle.job_runs.specs.Listing.{listing_check, job_line}

-- the listing of a job: its header, and a line for each column
abbrev pub job_listing : Plan → List ℕ → List ℕ
job_listing p file = listing_text (job_header p (file_tile file p)) (map (job_line p (file_tile file p) (file_sheets file p)) (range_with_len 0 p.columns))

-- the text that a file is answered with: the listing of its job, or the number of the refusal
abbrev pub Printed : List ℕ → List ℕ → Type 0
Printed file text = PrintedBy (λ p. job_listing p file) (listing_check file) file text
