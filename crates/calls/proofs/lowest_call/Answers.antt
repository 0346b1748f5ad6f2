-- `lowest_call` meets its contract: a call is compared with p.
use native.Mathlib.Omega.{arith}
use Rattle.calls.proofs.VisitLaws.{called-below, called-high, called-none}
use Rattle.calls.proofs.lowest_call.Goals as goal

pub returns-then-node-ne-CALL : goal.returns-then-node-ne-CALL
returns-then-node-ne-CALL c = called-none _ _ _ c.node_at-node.ensures _ _ c.if-node-ne-CALL.true

pub returns-then-node-p : goal.returns-then-node-p
returns-then-node-p c = called-below _ _ _ c.node_at-node.ensures _ _ c.if-node-ne-CALL.false (omega arith)

pub returns-else-node-p : goal.returns-else-node-p
returns-else-node-p c = called-high _ _ _ c.node_at-node.ensures _ _ c.if-node-ne-CALL.false (omega arith)
