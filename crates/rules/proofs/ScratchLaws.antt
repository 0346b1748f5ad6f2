-- Laws of the scratch: where it is enough, the answer is that of the questions after 1; and what a call leaves in it.
use mathlib.Core.List.{List, ◌++◌}
use mathlib.Core.Path.{◌≡◌, refl, sym, subst, ◌∙◌}
use Prim.Native.Nat.{ℕ, ◌+◌, ◌-◌, ◌≤◌}
use native.Mathlib.Omega.{arith}
use lib.Dec.{leb}
use lib.ListN.{length, drop, replicate, get_or, length-drop, get_or-replicate, get_or-append}
use lib.Seq.{get_or-append-add, get_or-drop}
use borrow.Author.Tests.{leb-true, leb-false, le-leb}
use Rattle.rules.specs.Acceptance.{scratch_words, judged, checked, checked_scratch}
use Rattle.rules.specs.Answers.{◌then◌}
use Rattle.rules.specs.Scratch.{former_words, formerly_checked, SameAsWith256, AnyScratch, Left, ScratchLeft}
use Rattle.rules.specs.WellFormed.{well_formed}
use Rattle.rules.proofs.TurnCases.{by-test}
use Rattle.rules.specs.Table.{decode}

enough_checked : (table scratch : List ℕ) → scratch_words ≤ length scratch
    → checked table scratch ≡ (well_formed table then judged (decode table))
unfolding checked
enough_checked table scratch enough = simp (le-leb scratch_words (length scratch) enough)

pub same_as_with_256 : SameAsWith256
unfolding formerly_checked
same_as_with_256 table scratch many =
    simp (le-leb former_words (length scratch) many) (enough_checked table scratch (omega arith))

pub any_scratch : AnyScratch
any_scratch table scratch other enough also = enough_checked table scratch enough ∙ sym (enough_checked table other also)

zeroed-left : (scratch : List ℕ) → scratch_words ≤ length scratch
    → Left scratch (replicate scratch_words 0 ++ drop scratch_words scratch)
zeroed-left scratch enough =
    let zeros : List ℕ = replicate scratch_words 0 in
    let later = drop scratch_words scratch in
    record {
      size = omega (arith, length-drop scratch_words scratch);
      zeroed = λ _ i low. get_or-append zeros later 0 i low ∙ get_or-replicate scratch_words i 0 0 low;
      kept = λ i high.
          let back : scratch_words + (i - scratch_words) ≡ i = omega arith in
          subst (λ (k : ℕ). get_or (zeros ++ later) k 0 ≡ get_or scratch k 0) back
          (get_or-append-add zeros later (i - scratch_words) 0 ∙ get_or-drop scratch_words scratch (i - scratch_words) 0);
      lent = λ few. absurd (omega arith);
    }

pub scratch_left : ScratchLeft
unfolding checked_scratch
scratch_left scratch =
    by-test (λ (after : List ℕ). Left scratch after) (leb scratch_words (length scratch)) _ _
    (λ e. zeroed-left scratch (leb-true scratch_words (length scratch) e))
    (λ e. record {
      size = refl;
      zeroed = λ enough. absurd (omega (arith, leb-false scratch_words (length scratch) e));
      kept = λ i high. refl;
      lent = λ few. refl;
    })
