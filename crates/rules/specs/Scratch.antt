-- "Less scratch for the checker": the answer as it was with 256 words, kept for `SameAsWith256` only, and what is claimed of any
-- scratch. Nothing else cites this file.
use Rattle.std.specs.Prelude.{List, ◌≡◌, ℕ, ◌<◌, ◌≤◌, leb, length, get_or}
use Rattle.rules.specs.Answers.{Verdict, ◌then◌, ask}
use Rattle.rules.specs.Acceptance.{scratch_words, judged, checked, checked_scratch}
use Rattle.rules.specs.WellFormed.{well_formed}
use Rattle.rules.specs.Table.{decode}

-- the number that question 1 asked for
abbrev pub former_words : ℕ
former_words = 256

-- as `checked`, with that number
unfoldable pub formerly_checked : List ℕ → List ℕ → Verdict
formerly_checked table scratch = ask 1 (leb former_words (length scratch)) then well_formed table then judged (decode table)

-- "Every table gets the same answer as with 256 words." Both sides put today's questions 2 to 17 and 26, so this is a claim about
-- question 1 alone. `AnyScratch` says more: what a checker keeps in the scratch plays no part in its answer.
abbrev pub SameAsWith256 : Type 0
SameAsWith256 =
    (table scratch : List ℕ) → former_words ≤ length scratch → checked table scratch ≡ formerly_checked table scratch

-- of a scratch that is enough neither the length nor the contents play a part
abbrev pub AnyScratch : Type 0
AnyScratch =
    (table scratch other : List ℕ) → scratch_words ≤ length scratch → scratch_words ≤ length other
    → checked table scratch ≡ checked table other

-- "only the first 24 are zeroed; the rest keep their contents", with the 32 of request U7; where there are fewer, all are as lent
pub record Left (scratch after : List ℕ) : Type 0 where
  pub size : length after ≡ length scratch
  pub zeroed : scratch_words ≤ length scratch → (i : ℕ) → i < scratch_words → get_or after i 0 ≡ 0
  pub kept : (i : ℕ) → scratch_words ≤ i → get_or after i 0 ≡ get_or scratch i 0
  pub lent : length scratch < scratch_words → after ≡ scratch

abbrev pub ScratchLeft : Type 0
ScratchLeft = (scratch : List ℕ) → Left scratch (checked_scratch scratch)
