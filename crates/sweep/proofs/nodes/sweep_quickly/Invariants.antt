-- `nodes::sweep_quickly` meets its contract. The loop's invariant: the nodes so far are swept, and nothing failed at them.
use Rattle.sweep.specs.Nodes.{Going}
use Rattle.rules.specs.Table.{decode}
use Rattle.sweep.proofs.nodes.sweep_quickly.Given as goal

abbrev pub invariant-loop-node : goal.invariant-loop-node
invariant-loop-node l = Going (decode l.own.bytes.now) l.first l.end l.start l.initial.planes l.planes l.node l.rule
