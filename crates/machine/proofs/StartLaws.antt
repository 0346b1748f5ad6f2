-- The words that a start lays out are those of the definition.
use mathlib.Core.Bool.{cond}
use mathlib.Core.List.{List}
use mathlib.Core.Path.{◌≡◌, sym, ◌∙◌}
use Prim.Native.Nat.{ℕ, suc, ◌+◌, ◌-◌, ◌*◌, ◌≤◌, ◌<◌}
use native.Mathlib.Decide.{dec_lt}
use native.Mathlib.Nat.{mul-le-mul_left, mul-suc}
use native.Mathlib.Omega.{arith}
use lib.Dec.{eqb}
use lib.ListN.{length, get_or}
use lib.Seq.{ext_get_or}
use borrow.Author.Tests.{lt-ltb, le-ltb, ne_eqb}
use Rattle.rules.specs.Process.{variable_places, gathered_at, doors_at, latches_at, depth_at, stack_at, process_words}
use Rattle.rules.specs.Start.{start_size, start_process}
use Rattle.rules.specs.Table.{Program, variables, main_body}
use Rattle.rules.proofs.VerdictLaws.{Laid, laid}
use Rattle.machine.specs.Layout.{laid_word}

module _ (program : Program) (given : List ℕ) (few : variables program ≤ variable_places) (sized : length given ≡ start_size program) where
  laid-here : Laid program given
  laid-here = laid program given few sized

  behind : (i : ℕ) → latches_at ≤ i → i < process_words
      → cond (eqb i depth_at) 1 (cond (eqb i stack_at) (main_body program) 0) ≡ get_or (start_process program given) i 0
  behind i h l =
      elim (dec_lt i depth_at) [
        | yes b ↦
            let e : latches_at + (i - latches_at) ≡ i = omega arith in
            simp (ne_eqb i depth_at (λ x. omega arith), ne_eqb i stack_at (λ x. omega arith))
            (sym (rw e at (laid-here.latch (i - latches_at) (omega arith))))
        | no b ↦
            elim (dec_lt i stack_at) [
              | yes d ↦ let e : i ≡ depth_at = omega arith in rw e (sym laid-here.depth-one)
              | no d ↦
                  elim (dec_lt i (suc stack_at)) [
                    | yes f ↦ let e : i ≡ stack_at = omega arith in rw e (sym laid-here.entry)
                    | no f ↦
                        let e : stack_at + (1 + (i - suc stack_at)) ≡ i = omega arith in
                        simp (ne_eqb i depth_at (λ x. omega arith), ne_eqb i stack_at (λ x. omega arith))
                        (sym (rw e at (laid-here.vacant (i - suc stack_at) (omega arith))))
                  ]
            ]
      ]

  laid-at : (i : ℕ) → i < process_words → laid_word (variables program) (main_body program) given i ≡ get_or (start_process program given) i 0
  laid-at i l =
      elim (dec_lt i (variables program)) [
        | yes a ↦ simp (lt-ltb i (variables program) a) (sym (laid-here.variable i a))
        | no a ↦
            elim (dec_lt i doors_at) [
              | yes b ↦
                  simp (le-ltb i (variables program) (omega arith), lt-ltb i doors_at b)
                  (elim (dec_lt i gathered_at) [
                    | yes d ↦ sym (laid-here.unused i (omega arith) d)
                    | no d ↦
                        let e : gathered_at + (i - gathered_at) ≡ i = omega arith in
                        sym (rw e at (laid-here.gathered (i - gathered_at) (omega arith)))
                  ])
              | no b ↦
                  elim (dec_lt i latches_at) [
                    | yes d ↦
                        let e : doors_at + (i - doors_at) ≡ i = omega arith in
                        simp (le-ltb i (variables program) (omega arith), le-ltb i doors_at (omega arith), lt-ltb i latches_at d)
                        (sym (rw e at (laid-here.door (i - doors_at) (omega arith))))
                    | no d ↦
                        simp (le-ltb i (variables program) (omega arith), le-ltb i doors_at (omega arith), le-ltb i latches_at (omega arith))
                        (behind i (omega arith) l)
                  ]
            ]
      ]

  -- words that are laid out so are the process's
  pub laid-all : (words : List ℕ) → length words ≡ process_words
      → ((i : ℕ) → i < process_words → get_or words i 0 ≡ laid_word (variables program) (main_body program) given i)
      → words ≡ start_process program given
  laid-all words l h =
      ext_get_or 0 words (start_process program given) (l ∙ sym laid-here.sized)
      (λ i below. h i (omega arith) ∙ laid-at i (omega arith))

-- the start words of a process lie within those that are given
pub given-within : (size count p : ℕ) → p < count → size * p + size ≤ size * count
given-within size count p l = omega (arith, mul-le-mul_left size l, mul-suc size p)
