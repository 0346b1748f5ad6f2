-- `process::step::repeat` meets its contract.
use Rattle.rules.specs.Process.{advanced, needs_place}
use borrow.Author.Tests.{eq-eqb, ne_eqb}
use Rattle.process.proofs.step.repeat.Goals as goal

pub push-requires : goal.push-requires
unfolding needs_place
push-requires c =
    let given = c.requires in
    (given.given.1.sized, given.words_bound (rw (← c.value_at-test.ensures, ne_eqb _ _ c.if-test-eq0.false)))

pub returns-then-test-eq0 : goal.returns-then-test-eq0
unfolding advanced
returns-then-test-eq0 c =
    let value-at = c.value_at-test in
    rw (← value-at.ensures, eq-eqb _ _ c.if-test-eq0.true) c.pop.ensures

pub returns-else-test-eq0 : goal.returns-else-test-eq0
unfolding advanced
returns-else-test-eq0 c =
    let value-at = c.value_at-test in
    rw (← value-at.ensures, ne_eqb _ _ c.if-test-eq0.false) c.push.ensures
