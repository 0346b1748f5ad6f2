-- `again::pass_again` meets its contract: no leave counts in a table without any. The loop's invariant: the nodes so far that count are
-- passed.
use Prim.Native.Nat.{◌-◌, ◌≤◌}
use Rattle.leaves.specs.Leaves.{PassedTo}
use Rattle.rules.specs.Judgement.{counted}
use Rattle.rules.specs.Table.{decode}
use Rattle.switches.specs.Again.{Beside}
use Rattle.switches.specs.Aside.{work_planes}
use Rattle.switches.proofs.again.pass_again.Given as goal

abbrev pub invariant-loop-first : goal.invariant-loop-first
invariant-loop-first l =
    (l.n ≤ l.table.header.nodes) × Beside (decode l.table.bytes.now) l.planes
    × PassedTo (decode l.table.bytes.now) (counted (decode l.table.bytes.now)) l.rule (work_planes l.initial.planes) l.n (work_planes l.planes) l.least

abbrev pub decreases-loop-first : goal.decreases-loop-first
decreases-loop-first l = l.table.header.nodes - l.n
