-- `first_high_call` meets its contract. The walk starts at the body, goes on from node to node, and ends where nothing waits.
use Rattle.calls.proofs.WalkLaws.{body-inside, going_start, going_next, going_end}
use native.Mathlib.Omega.{arith}
use Rattle.calls.proofs.first_high_call.Goals as goal

pub loop-next-init : goal.loop-next-init
loop-next-init c =
    let given = c.requires in
    going_start _ given.0 _ (body-inside c.args.table.now.sized given.0 _ given.1) _ _ _ given.2 c.body.ensures c.args.table.now.sized.nodes-read

pub loop-next-smaller : goal.loop-next-smaller
loop-next-smaller c =
    let given = c.requires in
    let going = rw c.in-Some.is at c.loop-next.invariant in
    let step =
    going_next _ given.0 _ (body-inside c.args.table.now.sized given.0 _ given.1) _ _ _ going _ _ _ c.lowest_call-lowest.ensures
    c.descend-next.ensures in
    rw c.in-Some.is (omega (arith, step.1))

pub loop-next-preserved : goal.loop-next-preserved
loop-next-preserved c =
    let given = c.requires in
    let going = rw c.in-Some.is at c.loop-next.invariant in
    (going_next _ given.0 _ (body-inside c.args.table.now.sized given.0 _ given.1) _ _ _ going _ _ _ c.lowest_call-lowest.ensures
    c.descend-next.ensures).0

pub returns-clause-value : goal.returns-clause-value
returns-clause-value c = (going_end _ _ _ _ (rw c.in_default.is at c.loop-next.invariant)).0
