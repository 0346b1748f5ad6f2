-- `preconditions::sizes_asked` meets its contract.
use Rattle.rules.specs.Step.{processes_in}
use borrow.Author.Tests.{eq-eqb, ne_eqb, le-leb}
use Rattle.preconditions.proofs.sizes_asked.Goals as goal

pub returns-then-state-count : goal.returns-then-state-count
unfolding processes_in
returns-then-state-count c =
    rw (
      eq-eqb _ _ c.if-roll-count.false,
      le-leb _ _ c.if-count-lt1.false,
      le-leb _ _ c.if-count-gt-MOST_PROCESSES.false,
      ne_eqb _ _ c.if-state-count.true,
    )
    c.refused-then-state-count.ensures

pub returns : goal.returns
unfolding processes_in
returns c =
    rw (
      eq-eqb _ _ c.if-roll-count.false,
      le-leb _ _ c.if-count-lt1.false,
      le-leb _ _ c.if-count-gt-MOST_PROCESSES.false,
      eq-eqb _ _ c.if-state-count.false,
    )
