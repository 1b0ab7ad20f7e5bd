-- The survey of a job: all its words, decoded, and the header that comes of them.
use Rattle.std.specs.Prelude.{◌≡◌, ℕ, ◌+◌, ◌%◌, List, [], ◌∷◌, take, drop, ℤ, pos, Some, None, Option, Result}
use Rattle.std.specs.Option.{option_and_then}
use Rattle.refusals.specs.declared.Refusal.{Refusal}
use Rattle.refusals.specs.declared.Refusal.TheVariants.{NotFinite}
use Rattle.refusals.specs.Refusing.{first, answer}
use Rattle.formats.specs.Coding.{Coding}
use Rattle.formats.specs.Fixed.{fixed}
use Rattle.formats.specs.Interchange.{coding}
use Rattle.alignment.specs.Tile.{Tile, tile_of, largest}
use Rattle.listing.specs.declared.Header.{Header}
use Rattle.jobs.specs.declared.codes.FormatCode.{FormatCode}
use Rattle.jobs.specs.declared.codes.FormatCode.TheVariants.{Binary16, Bfloat16, Binary32, Fixed8}
use Rattle.jobs.specs.declared.plan.Plan.{Plan}
use Rattle.jobs.specs.Codes.{word_bytes}
use Rattle.jobs.specs.Job.{job_check}
use Rattle.jobs.specs.Plan.{plan_of, activation_bytes}
use Rattle.jobs.specs.Trailer.{trailer_of}
use Rattle.jobs.specs.Words.{little, words_in}

-- what the words of a format mean
abbrev pub coding_of : FormatCode → Coding ℕ
coding_of Binary16 = coding 5 10
coding_of Bfloat16 = coding 8 7
coding_of Binary32 = coding 8 23
coding_of Fixed8 = fixed (pos 0)

-- the first word that is not finite, by its row in its tile of 128; the job's rows are counted on from `row`
abbrev pub tiles_check : ℕ → Tile → Option Refusal
tiles_check row [] = None
tiles_check row (None ∷ ts) = Some (NotFinite (row % 128))
tiles_check row (Some d ∷ ts) = tiles_check (row + 1) ts

-- what a survey of all words answers: the larger of the format's least exponent and every exponent, if all words are finite
abbrev pub surveyed : {W : Type 0} → Coding W → List W → Result ℤ Refusal
surveyed f ws = answer (tiles_check 0 (tile_of f ws)) (largest f.least (tile_of f ws))

-- the words of the activations, one for each row
abbrev pub activation_words : Plan → List ℕ → List ℕ
activation_words p bytes = words_in (word_bytes p.format) little p.rows bytes

-- the same, decoded
abbrev pub activations_tile : Plan → List ℕ → Tile
activations_tile p bytes = tile_of (coding_of p.format) (activation_words p bytes)

-- those that the file holds
abbrev pub file_tile : List ℕ → Plan → Tile
file_tile file p = activations_tile p (take (activation_bytes p) (drop (trailer_of file).activations file))

-- the checks of a job, and then of its words
abbrev pub header_check : List ℕ → Option Refusal
header_check file = first (job_check file) (option_and_then (λ p. tiles_check 0 (file_tile file p)) (plan_of (trailer_of file)))

-- the exponent that the words share: the larger of the format's least and every word's
abbrev pub shared_of : Plan → Tile → ℤ
shared_of p words = largest (coding_of p.format).least words

-- rows and extra bits of the plan, and the shared exponent
abbrev pub job_header : Plan → Tile → Header
job_header p words = record { rows = p.rows; shared = shared_of p words; extra = p.extra }

-- the header of the words that the file holds
abbrev pub header_of : List ℕ → Plan → Header
header_of file p = job_header p (file_tile file p)

-- the header of the plan that the file's trailer asks for
abbrev pub HeaderOf : List ℕ → Header → Type 0
HeaderOf file h = (p : Plan) → plan_of (trailer_of file) ≡ Some p → h ≡ header_of file p
