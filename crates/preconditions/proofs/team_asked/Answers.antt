-- `preconditions::team_asked` meets its contract.
use borrow.Author.Tests.{lt-ltb, le-ltb}
use mathlib.Core.Path.{sym, ◌∙◌}
use Rattle.preconditions.proofs.team_asked.Goals as goal

pub returns-then-process-count : goal.returns-then-process-count
returns-then-process-count c = rw (le-ltb _ _ c.if-process-count.true) c.refused.ensures

pub returns-then-unfit-count : goal.returns-then-unfit-count
returns-then-unfit-count c =
    rw (
      lt-ltb _ _ c.if-process-count.false,
      ← c.first_unfit-unfit.ensures,
      lt-ltb _ _ c.if-unfit-count.true,
    )
    c.refused-then-unfit-count.ensures

pub returns-then-all_at_one_node : goal.returns-then-all_at_one_node
returns-then-all_at_one_node c =
    rw (
      lt-ltb _ _ c.if-process-count.false,
      ← c.first_unfit-unfit.ensures,
      le-ltb _ _ c.if-unfit-count.false,
      sym c.all_at_one_node.ensures ∙ c.if-all_at_one_node.true,
    )
    c.refused-then-all_at_one_node.ensures

pub returns : goal.returns
returns c =
    rw (
      lt-ltb _ _ c.if-process-count.false,
      ← c.first_unfit-unfit.ensures,
      le-ltb _ _ c.if-unfit-count.false,
      sym c.all_at_one_node.ensures ∙ c.if-all_at_one_node.false,
    )
