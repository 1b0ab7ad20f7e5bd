-- What is printed of a file.
use Rattle.std.specs.Prelude.{ℕ, List}
use Rattle.listing.specs.Lines.{header_text}
use Rattle.jobs.specs.Survey.{header_check, header_of}
use Rattle.jobs.specs.Text.{PrintedBy}

-- the text that a file is answered with: its job's header, or the number of the refusal
abbrev pub Printed : List ℕ → List ℕ → Type 0
Printed file text = PrintedBy (λ p. header_text (header_of file p)) (header_check file) file text
