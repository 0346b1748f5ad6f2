-- `preconditions::fitting::fields_zero` meets its contract.
use Rattle.std.proofs.Common.{◌≡◌, ℕ, sym, ◌∙◌, arith}
use Rattle.rules.specs.Step.{fields_zero}
use borrow.Author.Tests.{eq-eqb, ne_eqb}
use Rattle.preconditions.proofs.fitting.fields_zero.Goals.{then-node_of-eq0, else-node_of-eq0}
use Rattle.preconditions.proofs.fitting.fields_zero.Goals as goal

pub returns-then-value_of-eq0 : goal.returns-then-value_of-eq0
unfolding fields_zero
returns-then-value_of-eq0 c =
    elim c.if-node_of-eq0.branch [
      | then-node_of-eq0 w ↦
          rw (
            eq-eqb _ _ (sym c.node_of.ensures ∙ w.if-node_of-eq0.true),
            ← w.value_of.ensures,
            sym w.value-is ∙ c.if-value_of-eq0.true,
            c.source_of.ensures,
          )
      | else-node_of-eq0 w ↦
          let z : ◌≡◌ {A = ℕ} 0 1 = cc (ne_eqb c.node_of.result 0 w.if-node_of-eq0.false, w.value-is, c.if-value_of-eq0.true) in
          absurd (omega arith)
    ]

pub returns-else-value_of-eq0 : goal.returns-else-value_of-eq0
unfolding fields_zero
returns-else-value_of-eq0 c =
    elim c.if-node_of-eq0.branch [
      | then-node_of-eq0 w ↦
          rw (
            c.if-value_of-eq0.false,
            eq-eqb _ _ (sym c.node_of.ensures ∙ w.if-node_of-eq0.true),
            ← w.value_of.ensures,
            sym w.value-is ∙ c.if-value_of-eq0.false,
          )
      | else-node_of-eq0 w ↦
          rw (c.if-value_of-eq0.false, ne_eqb _ _ (λ e. w.if-node_of-eq0.false (c.node_of.ensures ∙ e)))
    ]
