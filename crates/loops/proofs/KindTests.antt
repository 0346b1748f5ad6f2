-- What the tests by kind say of the statement that a node is.
use mathlib.Core.Bool.{Bool, true, false, ◌||◌}
use mathlib.Core.List.{[], ◌∷◌}
use mathlib.Core.Logic.{inl, inr, ⊎_elim}
use mathlib.Core.Path.{◌≡◌, refl, sym, ◌∙◌, ap}
use Prim.Native.Nat.{ℕ}
use native.Mathlib.Decide.{ℕ_discrete}
use lib.Dec.{eqb}
use borrow.Author.Tests.{eq-eqb, ne_eqb, eqb-true}
use Rattle.rules.specs.declared.Node.{Node}
use Rattle.rules.specs.Table.{Statement, nothing, assign, sequence, branch, loop, call, latch, collective, leave, statement_of}
use Rattle.rules.specs.WellFormed.{open_parts}
use Rattle.rules.proofs.AnswerLaws.{both_left, both_right, both_true}
use Rattle.rules.proofs.KindLaws.{sequence_of, branch_of, loop_of, by_kind}
use Rattle.rules.proofs.AnywhereLaws.{In, either_cases}
use Rattle.rules.proofs.AnywhereLaws.{either-right}
use Rattle.rules.proofs.VisibleLaws.{contrary}
use Rattle.loops.specs.Upward.{has_body, has_part}

-- one of two parts
pair_in : (a b n : ℕ) → (eqb a n || eqb b n) ≡ true → In n (a ∷ b ∷ [])
pair_in a b n t =
    ⊎_elim
    (λ (h : eqb a n ≡ true). inl (sym (eqb-true a n h)))
    (λ (h : eqb b n ≡ true). inr (inl (sym (eqb-true b n h))))
    (either_cases (eqb a n) (eqb b n) t)

in_pair : (a b n : ℕ) → In n (a ∷ b ∷ []) → (eqb a n || eqb b n) ≡ true
in_pair a b n (inl e) = simp (eq-eqb a n (sym e))
in_pair a b n (inr (inl e)) = either-right (eqb a n) (eqb b n) (eq-eqb b n (sym e))
in_pair a b n (inr (inr i)) = absurd i

abbrev is_loop : Statement → Bool
is_loop nothing = false
is_loop (assign a b) = false
is_loop (sequence a b) = false
is_loop (branch a b c) = false
is_loop (loop a b) = true
is_loop (call p) = false
is_loop (latch a b) = false
is_loop (collective k) = false
is_loop leave = false

no_loop : (m : Node) → (m.kind ≡ 20 → ⊥) → is_loop (statement_of m) ≡ false
no_loop m other =
    by_kind (λ s. is_loop s ≡ false) m (λ e. refl) (λ e. refl) (λ e. refl) (λ e. absurd (other e)) (λ e. refl) (λ e. refl)
    (λ e. refl) (λ e. refl) (λ e. refl) (λ e. refl) refl

module _ (m : Node) (n : ℕ) where
  pub part_of : has_part m n ≡ true → In n (open_parts (statement_of m))
  unfolding open_parts
  part_of t =
      elim (ℕ_discrete m.kind 18) [
        | yes e ↦ rw (sequence_of m e) (pair_in m.a m.b n (rw e at t))
        | no o ↦
            elim (ℕ_discrete m.kind 19) [
              | yes e ↦ rw (branch_of m e) (pair_in m.b m.c n (rw e at t))
              | no p ↦ absurd (contrary (has_part m n) t (simp (ne_eqb m.kind 18 o, ne_eqb m.kind 19 p)))
            ]
      ]

  pub no_part : has_part m n ≡ false → In n (open_parts (statement_of m)) → ⊥
  unfolding open_parts
  no_part f =
      by_kind (λ s. In n (open_parts s) → ⊥) m (λ e i. i)
      (λ e i. contrary (has_part m n) (rw e (in_pair m.a m.b n i)) f)
      (λ e i. contrary (has_part m n) (rw e (in_pair m.b m.c n i)) f) (λ e i. i) (λ e i. i) (λ e i. i) (λ e i. i)
      (λ e i. i) (λ e i. i) (λ e i. i) (λ i. i)

  -- a while's body
  pub body_of : has_body m n ≡ true → statement_of m ≡ loop m.a n
  body_of t =
      loop_of m (eqb-true m.kind 20 (both_left (eqb m.kind 20) (eqb m.b n) t))
      ∙ ap (loop m.a) (eqb-true m.b n (both_right (eqb m.kind 20) (eqb m.b n) t))

  pub no_body : has_body m n ≡ false → (a : ℕ) → statement_of m ≡ loop a n → ⊥
  no_body f a s =
      elim (ℕ_discrete m.kind 20) [
        | yes e ↦
            let is : statement_of m ≡ loop m.a m.b = loop_of m e in
            let same : m.b ≡ n = cc in
            contrary (has_body m n)
            (both_true (eqb m.kind 20) (eqb m.b n) (eq-eqb m.kind 20 e) (eq-eqb m.b n same)) f
        | no other ↦ contrary (is_loop (statement_of m)) (ap is_loop s) (no_loop m other)
      ]
