-- `again::visit_again` meets its contract. The loop's invariant: the nodes so far that count are visited.
use Prim.Native.Nat.{◌-◌, ◌≤◌}
use Rattle.rules.specs.Table.{decode}
use Rattle.switches.specs.Again.{Beside, VisitedTo}
use Rattle.switches.specs.Aside.{work_planes}
use Rattle.switches.proofs.again.visit_again.Given as goal

abbrev pub invariant-loop-node : goal.invariant-loop-node
invariant-loop-node l =
    (l.n ≤ l.table.header.nodes) × Beside (decode l.table.bytes.now) l.planes × VisitedTo (decode l.table.bytes.now) l.n (work_planes l.planes) l.least

abbrev pub decreases-loop-node : goal.decreases-loop-node
decreases-loop-node l = l.table.header.nodes - l.n
