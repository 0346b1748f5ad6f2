-- `descend` meets its contract: each arm of the match has the inner statements of its kind wait.
use native.Mathlib.Omega.{arith}
use Rattle.calls.proofs.VisitLaws.{sequence-fits, branch_fits, loop-fits}
use Rattle.calls.proofs.VisitLaws.{waits-sequence, waits-branch, waits-loop, waits-other, twice-waits}
use Rattle.table.specs.Marks.{with_bits}
use Rattle.rules.specs.Table.{decode}
use Rattle.calls.proofs.descend.Goals as goal

pub on_to_either-requires : goal.on_to_either-requires
on_to_either-requires c =
    let given = c.requires in
    let low = sequence-fits _ _ _ c.node_at-node.ensures c.args.table.now.sized given.0 given.1 c.in-18.is in
    (given.0, given.1, low.0, low.1, given.2, given.3)

pub on_to_either-requires-in-19 : goal.on_to_either-requires-in-19
on_to_either-requires-in-19 c =
    let given = c.requires in
    let low = branch_fits _ _ _ c.node_at-node.ensures c.args.table.now.sized given.0 given.1 c.in-19.is in
    (given.0, given.1, low.0, low.1, given.2, given.3)

pub on_to_either-requires-in-20 : goal.on_to_either-requires-in-20
on_to_either-requires-in-20 c =
    let given = c.requires in
    let low = loop-fits _ _ _ c.node_at-node.ensures c.args.table.now.sized given.0 given.1 c.in-20.is in
    (given.0, given.1, low, low, given.2, given.3)

pub returns-in-18 : goal.returns-in-18
returns-in-18 c = rw (waits-sequence _ _ _ c.node_at-node.ensures c.in-18.is) c.on_to_either.ensures

pub returns-in-19 : goal.returns-in-19
returns-in-19 c = rw (waits-branch _ _ _ c.node_at-node.ensures c.in-19.is) c.on_to_either-in-19.ensures

pub returns-in-20 : goal.returns-in-20
returns-in-20 c =
    let given = c.requires in
    let low = loop-fits _ _ _ c.node_at-node.ensures c.args.table.now.sized given.0 given.1 c.in-20.is in
    rw (
      waits-loop _ _ _ c.node_at-node.ensures c.in-20.is,
      ← twice-waits (decode c.args.table.now.bytes.now) c.args.marks.now c.node_at-node.result.b
          (omega (arith, low, c.args.table.now.sized.nodes-high, c.args.table.now.sized.nodes-read, given.1, given.2)),
    )
    c.on_to_either-in-20.ensures

pub returns-in_default : goal.returns-in_default
returns-in_default c =
    rw (waits-other _ _ _ c.node_at-node.ensures (omega arith) (omega arith) (omega arith)) (unfold with_bits in c.highest.ensures)
