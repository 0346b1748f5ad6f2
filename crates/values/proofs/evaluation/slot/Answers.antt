-- `values::evaluation::slot` meets its contract.
use Rattle.std.proofs.Common.{le-ltb, lt-ltb}
use Rattle.values.proofs.evaluation.slot.Goals as goal

pub returns-then-x-count : goal.returns-then-x-count
returns-then-x-count c = simp (lt-ltb _ _ c.if-x-count.true, c.slot_at-at.ensures)

pub returns-else-x-count : goal.returns-else-x-count
returns-else-x-count c = simp (le-ltb _ _ c.if-x-count.false)
