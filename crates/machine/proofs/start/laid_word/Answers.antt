-- `machine::start::laid_word` meets its contract.
use borrow.Author.Tests.{lt-ltb, le-ltb, eq-eqb, ne_eqb}
use Rattle.machine.proofs.start.laid_word.Goals as goal

pub returns-then-i-variables : goal.returns-then-i-variables
returns-then-i-variables c = simp (lt-ltb _ _ c.if-i-variables.true)

pub returns-then-i-lt-DOORS_AT : goal.returns-then-i-lt-DOORS_AT
returns-then-i-lt-DOORS_AT c = simp (le-ltb _ _ c.if-i-variables.false, lt-ltb _ _ c.if-i-lt-DOORS_AT.true)

pub returns-then-i-lt-LATCHES_AT : goal.returns-then-i-lt-LATCHES_AT
returns-then-i-lt-LATCHES_AT c =
    simp (
      le-ltb _ _ c.if-i-variables.false,
      le-ltb _ _ c.if-i-lt-DOORS_AT.false,
      lt-ltb _ _ c.if-i-lt-LATCHES_AT.true,
    )

pub returns-then-i-eq-DEPTH_AT : goal.returns-then-i-eq-DEPTH_AT
returns-then-i-eq-DEPTH_AT c =
    simp (
      le-ltb _ _ c.if-i-variables.false,
      le-ltb _ _ c.if-i-lt-DOORS_AT.false,
      le-ltb _ _ c.if-i-lt-LATCHES_AT.false,
      eq-eqb _ _ c.if-i-eq-DEPTH_AT.true,
    )

pub returns-then-i-eq-STACK_AT : goal.returns-then-i-eq-STACK_AT
returns-then-i-eq-STACK_AT c =
    simp (
      le-ltb _ _ c.if-i-variables.false,
      le-ltb _ _ c.if-i-lt-DOORS_AT.false,
      le-ltb _ _ c.if-i-lt-LATCHES_AT.false,
      ne_eqb _ _ c.if-i-eq-DEPTH_AT.false,
      eq-eqb _ _ c.if-i-eq-STACK_AT.true,
    )

pub returns-else-i-eq-STACK_AT : goal.returns-else-i-eq-STACK_AT
returns-else-i-eq-STACK_AT c =
    simp (
      le-ltb _ _ c.if-i-variables.false,
      le-ltb _ _ c.if-i-lt-DOORS_AT.false,
      le-ltb _ _ c.if-i-lt-LATCHES_AT.false,
      ne_eqb _ _ c.if-i-eq-DEPTH_AT.false,
      ne_eqb _ _ c.if-i-eq-STACK_AT.false,
    )
