-- `pass_nodes` meets its contract. The loop's invariant: the nodes so far are passed.
use Rattle.leaves.specs.Leaves.{NodesPassed}
use Rattle.rules.specs.Table.{decode}
use Rattle.leaves.proofs.pass_nodes.Given as goal

abbrev pub invariant-loop-n : goal.invariant-loop-n
invariant-loop-n l = NodesPassed (decode l.own.bytes.now) l.first l.n l.start l.initial.planes l.planes l.least
