-- Bytes that begin with certain words.
use Rattle.std.specs.Prelude.{List, ◌≡◌, ℕ, ◌*◌, take}
use Rattle.rules.specs.Encoding.{word_bytes}
use Rattle.rules.specs.WellFormed.{joined}

-- the first so many words are `word 0`, `word 1`, ..
abbrev pub Begins : (ℕ → ℕ) → ℕ → List ℕ → Type 0
Begins word count bytes = take (4 * count) bytes ≡ joined (λ i. word_bytes (word i)) count
