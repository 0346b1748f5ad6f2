-- `nodes::sweep_rest` meets its contract. The loop's invariant: the nodes so far are swept, and something fails at the next.
use Prim.Native.Nat.{◌-◌}
use Rattle.sweep.proofs.NodeLaws.{Resting}
use Rattle.rules.specs.Table.{decode}
use Rattle.sweep.proofs.nodes.sweep_rest.Given as goal

abbrev pub invariant-loop-reached : goal.invariant-loop-reached
invariant-loop-reached l = Resting (decode l.table.bytes.now) l.planes l.best l.reached

abbrev pub decreases-loop-reached : goal.decreases-loop-reached
decreases-loop-reached l = l.count - l.reached.node
