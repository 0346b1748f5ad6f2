-- `first_high_call` meets its contract. The loop's invariant: `next` was taken, and what waits and the lowest call are as the walk
-- leaves them.
use Rattle.calls.proofs.WalkLaws.{Going, above}
use Rattle.rules.specs.Table.{decode}
use Rattle.calls.proofs.first_high_call.Given as goal

abbrev pub invariant-loop-next : goal.invariant-loop-next
invariant-loop-next l = Going (decode l.table.bytes.now) l.p l.next l.marks l.lowest

abbrev pub decreases-loop-next : goal.decreases-loop-next
decreases-loop-next l = above l.next
