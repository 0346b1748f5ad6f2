-- `check` meets its contract: by question 1, and the words that it asks for are answered in and then cleared.
use mathlib.Core.List.{List, ◌++◌}
use mathlib.Core.Path.{◌≡◌, refl, sym, ◌∙◌, ap}
use Prim.Native.Nat.{ℕ, ◌<◌, ◌≤◌}
use native.Mathlib.Omega.{arith}
use lib.ListN.{length, drop, replicate}
use lib.Seq.{drop_at}
use borrow.Author.Tests.{le-leb, lt-leb}
use Rattle.rules.specs.Acceptance.{scratch_words, checked, checked_scratch}
use Rattle.checker.proofs.check.Goals as goal

-- the first words, once written and now zero, before the others
zeros-first : (n : ℕ) (planes later zeros : List ℕ) → length planes ≡ n → zeros ≡ replicate n 0
    → zeros ++ drop n (planes ++ later) ≡ replicate n 0 ++ later
zeros-first n planes later zeros many e = rw (e, drop_at planes later n many)

pub returns-then-scratch-lt-SCRATCH_WORDS : goal.returns-then-scratch-lt-SCRATCH_WORDS
unfolding checked checked_scratch
returns-then-scratch-lt-SCRATCH_WORDS c =
    let scratch = c.args.scratch.now in
    let few : length scratch < scratch_words = omega arith in
    simp (lt-leb scratch_words (length scratch) few) (c.refused.ensures, refl)

pub returns : goal.returns
unfolding checked checked_scratch
returns c =
    let scratch = c.args.scratch.now in
    let enough : scratch_words ≤ length scratch = omega arith in
    let answered = c.answer_in-verdict in
    let lent : length answered.new.planes ≡ scratch_words = omega arith in
    let last = c.clear in
    let all : length last.new.marks ≡ scratch_words = omega arith in
    let zero : last.new.marks ≡ replicate scratch_words 0 =
    last.ensures ∙ ap (λ (k : ℕ). replicate k 0) (sym last.auto.marks ∙ all) in
    simp (le-leb scratch_words (length scratch) enough)
    (answered.ensures, zeros-first scratch_words answered.new.planes _ _ lent zero)
