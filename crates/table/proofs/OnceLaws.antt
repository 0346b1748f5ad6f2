-- Question 11: the lower of the first unmarked node and the lowest node marked twice is the first that is not used once.
-- The law of the first place that fails either of two tests serves question 12 too.
use mathlib.Core.Bool.{Bool, true, false, ◌&&◌, and-false}
use mathlib.Core.List.{List}
use mathlib.Core.Logic.{⊎_elim}
use mathlib.Core.Path.{◌≡◌, sym, ◌∙◌}
use Prim.Native.Nat.{ℕ, ◌+◌, ◌≤◌, ◌<◌, min}
use native.Mathlib.Decide.{dec_lt}
use native.Mathlib.Omega.{arith}
use lib.Dec.{leb, ltb, eqb}
use lib.ListN.{replicate}
use borrow.Author.Tests.{ne_eqb, le-ltb, le-leb, lt-leb}
use Rattle.rules.specs.Choice.{first_failing}
use Rattle.rules.specs.WellFormed.{occurrences}
use Rattle.rules.proofs.ChoiceLaws.{Passed, first-none, first-at, first_le, first-passed, first-fails}
use Rattle.table.specs.Marks.{bit_at, with_bits}
use Rattle.table.specs.Uses.{repeated}
use Rattle.table.proofs.BitLaws.{bit-zero}
use Rattle.table.proofs.UseLaws.{marked, lowest, bits_at}

-- the first place that fails either of two tests
module _ (first second both : ℕ → Bool) (n : ℕ) (split : (k : ℕ) → k < n → both k ≡ (first k && second k)) where
  both_passed : (i : ℕ) → i ≤ first_failing first n → i ≤ first_failing second n → Passed both i
  both_passed i below-first below-second k l =
      let one : first k ≡ true = first-passed first n k (omega arith) in
      let other : second k ≡ true = first-passed second n k (omega arith) in
      split k (omega (arith, first_le first n)) ∙ simp (one, other)

  first-lower : first_failing first n < n → first_failing first n ≤ first_failing second n
      → first_failing both n ≡ first_failing first n
  first-lower inside lower =
      let i = first_failing first n in
      let fails : both i ≡ false = split i inside ∙ simp (first-fails first n inside) in
      first-at both n i inside (both_passed i (omega arith) lower) fails

  second-lower : first_failing second n < n → first_failing second n ≤ first_failing first n
      → first_failing both n ≡ first_failing second n
  second-lower inside lower =
      let i = first_failing second n in
      let fails : both i ≡ false = split i inside ∙ simp (first-fails second n inside, and-false) in
      first-at both n i inside (both_passed i lower (omega arith)) fails

  pub first_both : first_failing both n ≡ min (first_failing first n) (first_failing second n)
  first_both =
      let a = first_failing first n in
      let b = first_failing second n in
      elim (dec_lt a b) [
        | yes l ↦ omega (arith, first-lower (omega (arith, first_le second n)) (omega arith))
        | no m ↦
            elim (dec_lt b n) [
              | yes inside ↦ omega (arith, second-lower inside (omega arith))
              | no outside ↦
                  omega (
                    arith,
                    first_le first n,
                    first_le second n,
                    first-none both n (λ k l. both_passed n (omega arith) (omega arith) k l),
                  )
            ]
      ]

once : (x : ℕ) → eqb x 1 ≡ (ltb 0 x && leb x 1)
once x =
    elim (dec_lt x 1) [
      | yes l ↦ simp (ne_eqb x 1 (λ e. omega arith), le-ltb 0 x (omega arith))
      | no m ↦
          elim (dec_lt 1 x) [
            | yes more ↦ simp (ne_eqb x 1 (λ e. omega arith), lt-leb x 1 more, and-false)
            | no less ↦ let e : x ≡ 1 = omega arith in rw e
          ]
    ]

-- marks of eight words, none set at first
abbrev pub zeros : List ℕ
zeros = replicate 8 0

module _ (list : List ℕ) (n : ℕ) (few : n ≤ 256) where
  -- the lowest node that occurs twice
  repeated-first : repeated zeros n list ≡ first_failing (λ k. leb (occurrences k list) 1) n
  repeated-first =
      let l = repeated zeros n list in
      let low = lowest zeros n list in
      let none : (k : ℕ) → marked zeros k ≡ 0 = λ k. simp (bit-zero 8 k) in
      let passed : Passed (λ k. leb (occurrences k list) 1) l =
      λ k m. le-leb (occurrences k list) 1 (omega (arith, low.below k m (omega (arith, low.bound)), none k)) in
      elim (dec_lt l n) [
        | yes inside ↦
            let twice : 2 ≤ occurrences l list =
            ⊎_elim (λ (e : l ≡ n). absurd (omega arith))
            (λ (h : 2 ≤ marked zeros l + occurrences l list). omega (arith, none l)) low.twice in
            sym (first-at (λ k. leb (occurrences k list) 1) n l inside passed (lt-leb (occurrences l list) 1 twice))
        | no outside ↦
            let e : l ≡ n = omega (arith, low.bound) in
            e ∙ sym (first-none (λ k. leb (occurrences k list) 1) n (rw e at passed))
      ]

  pub once-first : min (first_failing (bit_at (with_bits zeros list)) n) (repeated zeros n list)
      ≡ first_failing (λ k. eqb (occurrences k list) 1) n
  once-first =
      let split : (k : ℕ) → k < n
      → eqb (occurrences k list) 1 ≡ (bit_at (with_bits zeros list) k && leb (occurrences k list) 1) =
      λ k l. once (occurrences k list) ∙ simp (bits_at zeros list k (omega arith), bit-zero 8 k) in
      rw repeated-first
      (sym
      (first_both (bit_at (with_bits zeros list)) (λ k. leb (occurrences k list) 1) (λ k. eqb (occurrences k list) 1) n split))
