-- What a node is, by its kind, and what a well-formed table says of its fields.
use mathlib.Core.Bool.{true, false}
use mathlib.Core.List.{[], ◌∷◌}
use mathlib.Core.Path.{◌≡◌, refl, sym, ◌∙◌, ap}
use Prim.Native.Nat.{ℕ, zero, suc, ◌+◌, ◌-◌, ◌≤◌, ◌<◌}
use native.Mathlib.Decide.{dec_lt}
use native.Mathlib.Omega.{arith}
use lib.ListN.{get_or}
use borrow.Author.Tests.{ltb-true}
use Rattle.rules.specs.declared.Node.{Node}
use Rattle.rules.specs.Table.{Program, first_statement, gathered_areas, variables, procedures, node_at}
use Rattle.rules.specs.Table.{expression_of, statement_of, expression_at, statement_at, expression_operands, statement_operands}
use Rattle.rules.specs.Table.{Operator, sum, difference, product, quotient, less, equal, both}
use Rattle.rules.specs.Table.{Expression, variable, door, slot, operation}
use Rattle.rules.specs.Table.{Statement, nothing, assign, sequence, branch, loop, call, latch, collective, leave}
use Rattle.rules.specs.Table.{barrier, broadcast, exchange, is_leave}
use Rattle.rules.specs.WellFormed.{expression_part, statement_part}
use Rattle.rules.proofs.Formed.{Formed}
use Rattle.rules.proofs.PartLaws.{EachFits, expression-fits, statement-fits}

-- the operator of kind 6 + j
abbrev pub operator_at : ℕ → Operator
operator_at j = get_or (sum ∷ difference ∷ product ∷ quotient ∷ less ∷ equal ∷ []) j both

module _ (m : Node) where
  pub variable_of : m.kind ≡ 1 → expression_of m ≡ variable m.a
  unfolding expression_of
  variable_of e = rw e

  pub door_of : m.kind ≡ 4 → expression_of m ≡ door m.a
  unfolding expression_of
  door_of e = rw e

  pub slot_of : m.kind ≡ 5 → expression_of m ≡ slot m.a m.b
  unfolding expression_of
  slot_of e = rw e

  operation-at : (j : ℕ) → m.kind ≡ 6 + j → j < 7 → expression_of m ≡ operation (operator_at j) m.a m.b
  unfolding expression_of
  operation-at zero e h = rw e
  operation-at (suc zero) e h = rw e
  operation-at (suc (suc zero)) e h = rw e
  operation-at (suc (suc (suc zero))) e h = rw e
  operation-at (suc (suc (suc (suc zero)))) e h = rw e
  operation-at (suc (suc (suc (suc (suc zero))))) e h = rw e
  operation-at (suc (suc (suc (suc (suc (suc zero)))))) e h = rw e
  operation-at (suc (suc (suc (suc (suc (suc (suc j))))))) e h = absurd (omega arith)

  -- kinds 6 to 12 are the operators in their order
  pub operation_of : 6 ≤ m.kind → m.kind ≤ 12 → expression_of m ≡ operation (operator_at (m.kind - 6)) m.a m.b
  operation_of h k = operation-at (m.kind - 6) (omega arith) (omega arith)

  pub nothing_of : m.kind ≡ 16 → statement_of m ≡ nothing
  unfolding statement_of
  nothing_of e = rw e

  pub assign_of : m.kind ≡ 17 → statement_of m ≡ assign m.a m.b
  unfolding statement_of
  assign_of e = rw e

  pub sequence_of : m.kind ≡ 18 → statement_of m ≡ sequence m.a m.b
  unfolding statement_of
  sequence_of e = rw e

  pub branch_of : m.kind ≡ 19 → statement_of m ≡ branch m.a m.b m.c
  unfolding statement_of
  branch_of e = rw e

  pub loop_of : m.kind ≡ 20 → statement_of m ≡ loop m.a m.b
  unfolding statement_of
  loop_of e = rw e

  pub call_of : m.kind ≡ 21 → statement_of m ≡ call m.a
  unfolding statement_of
  call_of e = rw e

  pub latch_of : m.kind ≡ 22 → statement_of m ≡ latch m.a m.b
  unfolding statement_of
  latch_of e = rw e

  pub barrier_of : m.kind ≡ 23 → statement_of m ≡ collective barrier
  unfolding statement_of
  barrier_of e = rw e

  pub broadcast_of : m.kind ≡ 24 → statement_of m ≡ collective (broadcast m.a m.b m.c)
  unfolding statement_of
  broadcast_of e = rw e

  pub exchange_of : m.kind ≡ 25 → statement_of m ≡ collective (exchange m.a m.b)
  unfolding statement_of
  exchange_of e = rw e

  pub leave_of : m.kind ≡ 26 → statement_of m ≡ leave
  unfolding statement_of
  leave_of e = rw e

-- what holds of each statement that a kind stands for, and of nothing for all other kinds, holds of the statement that a node is
module _ (P : Statement → Type 0) (m : Node)
    (assign-case : m.kind ≡ 17 → P (assign m.a m.b))
    (sequence-case : m.kind ≡ 18 → P (sequence m.a m.b))
    (branch-case : m.kind ≡ 19 → P (branch m.a m.b m.c))
    (loop-case : m.kind ≡ 20 → P (loop m.a m.b))
    (call-case : m.kind ≡ 21 → P (call m.a))
    (latch-case : m.kind ≡ 22 → P (latch m.a m.b))
    (barrier-case : m.kind ≡ 23 → P (collective barrier))
    (broadcast-case : m.kind ≡ 24 → P (collective (broadcast m.a m.b m.c)))
    (exchange-case : m.kind ≡ 25 → P (collective (exchange m.a m.b)))
    (leave-case : m.kind ≡ 26 → P leave)
    (other : P nothing) where
  by_place : (i : ℕ) → m.kind - first_statement ≡ i → P (statement_of m)
  unfolding statement_of
  by_place zero e = rw e other
  by_place (suc zero) e = rw e (assign-case (omega arith))
  by_place (suc (suc zero)) e = rw e (sequence-case (omega arith))
  by_place (suc (suc (suc zero))) e = rw e (branch-case (omega arith))
  by_place (suc (suc (suc (suc zero)))) e = rw e (loop-case (omega arith))
  by_place (suc (suc (suc (suc (suc zero))))) e = rw e (call-case (omega arith))
  by_place (suc (suc (suc (suc (suc (suc zero)))))) e = rw e (latch-case (omega arith))
  by_place (suc (suc (suc (suc (suc (suc (suc zero))))))) e = rw e (barrier-case (omega arith))
  by_place (suc (suc (suc (suc (suc (suc (suc (suc zero)))))))) e = rw e (broadcast-case (omega arith))
  by_place (suc (suc (suc (suc (suc (suc (suc (suc (suc zero))))))))) e = rw e (exchange-case (omega arith))
  by_place (suc (suc (suc (suc (suc (suc (suc (suc (suc (suc zero)))))))))) e = rw e (leave-case (omega arith))
  by_place (suc (suc (suc (suc (suc (suc (suc (suc (suc (suc (suc i))))))))))) e = rw e other

  pub by_kind : P (statement_of m)
  by_kind = by_place (m.kind - first_statement) refl

pub no-leave : (m : Node) → (m.kind ≡ 26 → ⊥) → is_leave (statement_of m) ≡ false
no-leave m other =
    by_kind (λ s. is_leave s ≡ false) m (λ e. refl) (λ e. refl) (λ e. refl) (λ e. refl) (λ e. refl) (λ e. refl) (λ e. refl)
    (λ e. refl) (λ e. refl) (λ e. absurd (other e)) refl

-- a node m that a program has at n
module _ (program : Program) (n : ℕ) (m : Node) (here : m ≡ node_at program n) where
  pub expression-here : {e : Expression} → expression_of m ≡ e → expression_at program n ≡ e
  unfolding expression_at
  expression-here t = ap expression_of (sym here) ∙ t

  pub statement-here : {s : Statement} → statement_of m ≡ s → statement_at program n ≡ s
  unfolding statement_at
  statement-here t = ap statement_of (sym here) ∙ t

-- and its fields, where the program is formed
module _ (program : Program) (formed : Formed program) (n : ℕ) (m : Node) (here : m ≡ node_at program n) where
  of_expression : {e : Expression} → expression_of m ≡ e → EachFits program n (expression_operands e)
  of_expression t = expression-fits program formed n (expression-here program n m here t)

  of_statement : {s : Statement} → statement_of m ≡ s → EachFits program n (statement_operands s)
  of_statement t = statement-fits program formed n (statement-here program n m here t)

  pub variable-field : m.kind ≡ 1 → m.a < variables program
  variable-field e = ltb-true m.a (variables program) (of_expression (variable_of m e)).0

  pub slot_fields : m.kind ≡ 5 → (expression_part program n m.a ≡ true) × (m.b < gathered_areas)
  slot_fields e = let fit = of_expression (slot_of m e) in (fit.0, ltb-true m.b gathered_areas fit.1.0)

  pub first_part : 4 ≤ m.kind → m.kind ≤ 12 → expression_part program n m.a ≡ true
  first_part h k =
      elim (dec_lt m.kind 6) [
        | yes l ↦
            elim (dec_lt m.kind 5) [
              | yes l' ↦ (of_expression (door_of m (omega arith))).0
              | no l' ↦ (slot_fields (omega arith)).0
            ]
        | no l ↦ (of_expression (operation_of m (omega arith) k)).0
      ]

  pub second-part : 6 ≤ m.kind → m.kind ≤ 12 → expression_part program n m.b ≡ true
  second-part h k = (of_expression (operation_of m h k)).1.0

  pub assign_fields : m.kind ≡ 17 → (m.a < variables program) × (expression_part program n m.b ≡ true)
  assign_fields e = let fit = of_statement (assign_of m e) in (ltb-true m.a (variables program) fit.0, fit.1.0)

  pub sequence_fields : m.kind ≡ 18 → (statement_part program n m.a ≡ true) × (statement_part program n m.b ≡ true)
  sequence_fields e = let fit = of_statement (sequence_of m e) in (fit.0, fit.1.0)

  pub branch_fields : m.kind ≡ 19
      → (expression_part program n m.a ≡ true)
      × (statement_part program n m.b ≡ true)
      × (statement_part program n m.c ≡ true)
  branch_fields e = let fit = of_statement (branch_of m e) in (fit.0, fit.1.0, fit.1.1.0)

  pub loop_fields : m.kind ≡ 20 → (expression_part program n m.a ≡ true) × (statement_part program n m.b ≡ true)
  loop_fields e = let fit = of_statement (loop_of m e) in (fit.0, fit.1.0)

  pub call-field : m.kind ≡ 21 → m.a < procedures program
  call-field e = ltb-true m.a (procedures program) (of_statement (call_of m e)).0

  pub latch_fields : m.kind ≡ 22 → (expression_part program n m.a ≡ true) × (expression_part program n m.b ≡ true)
  latch_fields e = let fit = of_statement (latch_of m e) in (fit.0, fit.1.0)

  pub broadcast_fields : m.kind ≡ 24
      → (m.a < variables program)
      × (expression_part program n m.b ≡ true)
      × (expression_part program n m.c ≡ true)
  broadcast_fields e =
      let fit = of_statement (broadcast_of m e) in
      (ltb-true m.a (variables program) fit.0, fit.1.0, fit.1.1.0)

  pub exchange_fields : m.kind ≡ 25 → (expression_part program n m.a ≡ true) × (m.b < gathered_areas)
  exchange_fields e = let fit = of_statement (exchange_of m e) in (fit.0, ltb-true m.b gathered_areas fit.1.0)
