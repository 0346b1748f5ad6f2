-- `nodes::sweep_blocks` meets its contract. The loop's invariant: the blocks so far are swept, and nothing failed in them.
use Rattle.sweep.proofs.NodeLaws.{Blocking}
use Rattle.rules.specs.Table.{decode}
use Rattle.sweep.proofs.nodes.sweep_blocks.Given as goal

abbrev pub invariant-loop-p : goal.invariant-loop-p
invariant-loop-p l = Blocking (decode l.table.bytes.now) l.planes l.reached.node l.p l.reached.rule
