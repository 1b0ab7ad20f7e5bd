-- Numbers and words as bytes spell them, the lowest byte first.
use Rattle.std.specs.Prelude.{ℕ, zero, suc, ◌+◌, ◌*◌, ◌/◌, List, [], ◌∷◌, length, take, drop}

-- the number that bytes spell
abbrev pub little : List ℕ → ℕ
little [] = 0
little (b ∷ bs) = b + 256 * little bs

-- the first so many words in the bytes, each of so many bytes
abbrev pub words_in : {W : Type 0} → ℕ → (List ℕ → W) → ℕ → List ℕ → List W
words_in width spelled zero bytes = []
words_in width spelled (suc count) bytes = spelled (take width bytes) ∷ words_in width spelled count (drop width bytes)

-- as many words as the bytes hold whole
abbrev pub whole_words : {W : Type 0} → ℕ → (List ℕ → W) → List ℕ → List W
whole_words width spelled bytes = words_in width spelled (length bytes / width) bytes
