-- Activations as words, and their format.
use Rattle.std.specs.Prelude.{ℕ, List, vec_items}
use Rattle.jobs.specs.declared.activations.Activations.{Activations}
use Rattle.jobs.specs.declared.activations.Activations.TheVariants as activations
use Rattle.jobs.specs.declared.codes.FormatCode.{FormatCode}
use Rattle.jobs.specs.declared.codes.FormatCode.TheVariants.{Binary16, Bfloat16, Binary32, Fixed8}
use Rattle.jobs.specs.Codes.{word_bytes}
use Rattle.jobs.specs.Words.{little, whole_words}

-- the format that the words are of
abbrev pub format_of : Activations → FormatCode
format_of (activations.Binary16 words) = Binary16
format_of (activations.Bfloat16 words) = Bfloat16
format_of (activations.Binary32 words) = Binary32
format_of (activations.Fixed8 words) = Fixed8

-- the words, as numbers
abbrev pub held_words : Activations → List ℕ
held_words (activations.Binary16 words) = vec_items words
held_words (activations.Bfloat16 words) = vec_items words
held_words (activations.Binary32 words) = vec_items words
held_words (activations.Fixed8 words) = vec_items words

-- the words of a format that lie in the bytes
abbrev pub section_words : FormatCode → List ℕ → List ℕ
section_words format bytes = whole_words (word_bytes format) little bytes
