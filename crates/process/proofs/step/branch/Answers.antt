-- `process::step::branch` meets its contract.
use Rattle.rules.specs.Process.{advanced}
use borrow.Author.Tests.{eq-eqb, ne_eqb}
use Rattle.process.proofs.step.branch.Goals as goal

pub returns-then-test-eq0 : goal.returns-then-test-eq0
unfolding advanced
returns-then-test-eq0 c =
    let value-at = c.value_at-test in
    rw (← value-at.ensures, eq-eqb _ _ c.if-test-eq0.true) c.replace.ensures

pub returns-else-test-eq0 : goal.returns-else-test-eq0
unfolding advanced
returns-else-test-eq0 c =
    let value-at = c.value_at-test in
    rw (← value-at.ensures, ne_eqb _ _ c.if-test-eq0.false) c.replace-else-test-eq0.ensures
