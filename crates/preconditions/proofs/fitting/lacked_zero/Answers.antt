-- `preconditions::fitting::lacked_zero` meets its contract.
use Rattle.std.proofs.Common.{◌≡◌, refl, sym, ◌∙◌, arith, false}
use Rattle.rules.proofs.KindLaws.{barrier_of, broadcast_of, exchange_of, by_kind}
use Rattle.rules.specs.Step.{lacked_zero}
use Rattle.rules.specs.Table.{on_collective}
use borrow.Author.Tests.{eq-eqb, ne_eqb}
use Rattle.preconditions.proofs.fitting.lacked_zero.Goals as goal

pub returns-then-value_of-eq0 : goal.returns-then-value_of-eq0
unfolding lacked_zero
returns-then-value_of-eq0 c =
    rw (
      barrier_of c.args.node c.in-23.is,
      eq-eqb _ _ (sym c.value_of.ensures ∙ c.if-value_of-eq0.true),
      c.source_of.ensures,
    )

pub returns-else-value_of-eq0 : goal.returns-else-value_of-eq0
unfolding lacked_zero
returns-else-value_of-eq0 c =
    rw (
      barrier_of c.args.node c.in-23.is,
      ← c.value_of.ensures,
      ne_eqb _ _ c.if-value_of-eq0.false,
    )

pub returns-in-24 : goal.returns-in-24
unfolding lacked_zero
returns-in-24 c = rw (broadcast_of c.args.node c.in-24.is)

pub returns-in-25 : goal.returns-in-25
unfolding lacked_zero
returns-in-25 c = rw (exchange_of c.args.node c.in-25.is, c.source_of-in-25.ensures)

pub returns-in_default : goal.returns-in_default
returns-in_default c =
    sym (by_kind (λ s. on_collective s (lacked_zero c.args.roll.now c.args.p) false ≡ false) c.args.node (λ e. refl) (λ e. refl) (λ e. refl)
    (λ e. refl) (λ e. refl) (λ e. refl) (λ e. absurd (omega arith)) (λ e. absurd (omega arith)) (λ e. absurd (omega arith)) (λ e. refl) refl)
