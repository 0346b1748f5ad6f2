-- Question 12 of one procedure: what waits are the statements of the body's tree that may hold a call and lie below those
-- visited, each of which is a part of one that was visited, or the body.
use mathlib.Core.Bool.{true, false, ◌||◌, or-true}
use mathlib.Core.List.{List}
use mathlib.Core.Logic.{◌⊎◌, inl, inr, ⊎_elim}
use mathlib.Core.Path.{◌≡◌, sym, ◌∙◌}
use Prim.Native.Nat.{ℕ, ◌+◌, ◌≤◌, ◌<◌}
use native.Mathlib.Decide.{dec_lt, ℕ_discrete}
use native.Mathlib.Omega.{arith}
use lib.Dec.{ltb}
use lib.ListN.{length, replicate}
use borrow.Author.Tests.{lt-ltb, ltb-true}
use Rattle.rules.specs.Table.{Program, decode, nodes, statement_at}
use Rattle.rules.specs.WellFormed.{parts_at, occurrences, in_tree}
use Rattle.rules.proofs.AnywhereLaws.{In}
use Rattle.rules.proofs.ChoiceLaws.{bool_cases}
use Rattle.rules.proofs.LeaveLaws.{counted_in}
use Rattle.rules.proofs.LoopLaws.{in_counted}
use Rattle.rules.proofs.PartLaws.{tree_self}
use Rattle.table.specs.Marks.{bit_at, with_bit, with_bits}
use Rattle.table.specs.Uses.{Fitting}
use Rattle.table.proofs.BitLaws.{bit-same, bit-other, bit-zero, length-with_bit}
use Rattle.table.proofs.TestLaws.{never}
use Rattle.table.proofs.UseLaws.{bits_at, length-with_bits}
use Rattle.calls.specs.Walk.{inner_statements, may_call, waiting}
use Rattle.calls.proofs.InnerLaws.{inner_in, in_inner, callers_in, in_callers, no_inner}
use Rattle.calls.proofs.TreeLaws.{part_in_below, Parent, tree_up, tree_down}

-- what waits once the nodes from i on are visited, b being the body
pub record Wait (program : Program) (b i : ℕ) (m : List ℕ) : Type 0 where
  pub size : length m ≡ 8
  pub sound : (k : ℕ) → k < 256 → bit_at m k ≡ true → (in_tree program k b ≡ true) × (k < i)
  pub rooted : b < i → bit_at m b ≡ true
  pub complete : (j k : ℕ) → i ≤ j → j < nodes program → in_tree program j b ≡ true → In k (parts_at program j)
      → may_call program k ≡ true → k < i → bit_at m k ≡ true

module _ (table : List ℕ) (f : Fitting table) (b : ℕ) (l : b < nodes (decode table)) where
  few : nodes (decode table) ≤ 256
  few = f.sized.nodes-high

  pub wait_start : Wait (decode table) b (nodes (decode table)) (with_bit (replicate 8 0) b)
  wait_start =
      record {
        size = length-with_bit (replicate 8 0) b;
        sound = λ k inside marked.
            elim (ℕ_discrete k b) [
              | yes same ↦ (rw same (tree_self (decode table) b), omega arith)
              | no other ↦ never (sym marked ∙ bit-other (replicate 8 0) b k other ∙ bit-zero 8 k)
            ];
        rooted = λ low. bit-same (replicate 8 0) b (omega (arith, few));
        complete = λ j k above inside holds stands s low. absurd (omega arith);
      }

  module _ (n : ℕ) (inside : n < nodes (decode table)) (m : List ℕ) (w : Wait (decode table) b (n + 1) m) where
    -- the nodes of the tree that may hold a call wait before they are visited
    pub waits : may_call (decode table) n ≡ true → in_tree (decode table) n b ≡ true → bit_at m n ≡ true
    waits s h =
        ⊎_elim
        (λ (same : n ≡ b). rw same (w.rooted (omega arith)))
        (λ (p : Parent table f n b).
        let above = part_in_below table f p.node n p.inside p.stands in
        w.complete p.node n (omega arith) p.inside p.holds p.stands s (omega arith))
        (tree_up table f n b l h)

    pub wait_passed : bit_at m n ≡ false → Wait (decode table) b n m
    wait_passed e =
        record {
          size = w.size;
          sound = λ k low marked.
              let old = w.sound k low marked in
              elim (ℕ_discrete k n) [
                | yes same ↦ never (sym (rw same at marked) ∙ e)
                | no other ↦ (old.0, omega (arith, old.1))
              ];
          rooted = λ low. w.rooted (omega arith);
          complete = λ j k above under holds stands s low.
              elim (dec_lt n j) [
                | yes higher ↦ w.complete j k (omega arith) under holds stands s (omega arith)
                | no here ↦
                    let same : j ≡ n = omega arith in
                    let part : In k (parts_at (decode table) n) = rw same at stands in
                    let stood = in_inner (decode table) n k s (f.fits n inside) part in
                    ⊎_elim
                    (λ (t : may_call (decode table) n ≡ true). never (sym (waits t (rw same at holds)) ∙ e))
                    (λ (t : may_call (decode table) n ≡ false). absurd (no_inner (decode table) n t k stood))
                    (bool_cases (may_call (decode table) n))
              ];
        }

    -- a node that was taken, and its parts that may hold a call in its place
    module _ (after : List ℕ) (size : length after ≡ 8) (marked : bit_at m n ≡ true) (gone : bit_at after n ≡ false)
        (same-else : (k : ℕ) → (k ≡ n → ⊥) → bit_at after k ≡ bit_at m k) where
      abbrev inner : List ℕ
      inner = waiting (decode table) n

      abbrev next : List ℕ
      next = with_bits after inner

      bits : (k : ℕ) → k < 256 → bit_at next k ≡ (bit_at after k || ltb 0 (occurrences k inner))
      bits k low = bits_at after inner k (omega (arith, size))

      kept : (k : ℕ) → k < n → bit_at m k ≡ true → bit_at next k ≡ true
      kept k low e =
          bits k (omega (arith, few)) ∙ simp (same-else k (λ same. omega arith) ∙ e)

      grown : (k : ℕ) → k < 256 → In k inner → bit_at next k ≡ true
      grown k low stands =
          bits k low ∙ simp (lt-ltb 0 (occurrences k inner) (omega (arith, in_counted inner k stands)), or-true)

      old_or_new : (k : ℕ) → k < 256 → bit_at next k ≡ true → ((bit_at m k ≡ true) × (k < n)) ⊎ In k inner
      old_or_new k low e =
          ⊎_elim
          (λ (old : bit_at after k ≡ true).
          let other : (k ≡ n → ⊥) = λ same. never (sym (rw same at old) ∙ gone) in
          let was : bit_at m k ≡ true = sym (same-else k other) ∙ old in
          inl (was, omega (arith, (w.sound k low was).1)))
          (λ (new : bit_at after k ≡ false).
          let stands : ltb 0 (occurrences k inner) ≡ true = simp new at (sym (bits k low) ∙ e) in
          inr (counted_in inner k (omega (arith, ltb-true 0 (occurrences k inner) stands))))
          (bool_cases (bit_at after k))

      pub wait_taken : Wait (decode table) b n next
      wait_taken =
          let held : in_tree (decode table) n b ≡ true = (w.sound n (omega (arith, few)) marked).0 in
          record {
            size = length-with_bits after inner ∙ size;
            sound = λ k low e.
                ⊎_elim
                (λ (old : (bit_at m k ≡ true) × (k < n)). ((w.sound k low old.0).0, old.1))
                (λ (new : In k inner).
                let part = inner_in (decode table) n k (callers_in (decode table) k (inner_statements (statement_at (decode table) n)) new) in
                (tree_down table f n k b l held part, part_in_below table f n k inside part))
                (old_or_new k low e);
            rooted = λ low. kept b low (w.rooted (omega arith));
            complete = λ j k above under holds stands s low.
                elim (dec_lt n j) [
                  | yes higher ↦ kept k low (w.complete j k (omega arith) under holds stands s (omega arith))
                  | no here ↦
                      let same : j ≡ n = omega arith in
                      let part : In k (parts_at (decode table) n) = rw same at stands in
                      grown k (omega (arith, few))
                      (in_callers (decode table) k (inner_statements (statement_at (decode table) n)) s (in_inner (decode table) n k s (f.fits n inside) part))
                ];
          }
