-- `nodes::sweep_quickly` meets its contract. The loop's invariant: the nodes so far are swept, and nothing failed at them.
use mathlib.Core.Path.{◌≡◌}
use native.Mathlib.Omega.{arith}
use Rattle.sweep.proofs.NodeLaws.{going_more}
use Rattle.sweep.proofs.nodes.sweep_quickly.Goals as goal

pub returns-then-found-eq-STUCK : goal.returns-then-found-eq-STUCK
returns-then-found-eq-STUCK c =
    let so_far = c.loop-node.invariant in
    let visited = c.quick-found.ensures in
    let still = visited.same c.if-found-eq-STUCK.true in
    record {
      going = rw still so_far;
      stuck = λ inside all. rw still (visited.stuck c.if-found-eq-STUCK.true all);
    }

pub loop-node-preserved : goal.loop-node-preserved
loop-node-preserved c =
    let sized = c.args.table.now.sized in
    going_more _ _ _ _ _ sized (omega (arith, c.requires.1, sized.nodes-read)) _ _ _ _ _ _ c.loop-node.invariant
    c.loop-node-test.true c.quick-found.ensures c.if-found-eq-STUCK.false c.lesser-rule.ensures

pub returns : goal.returns
returns c =
    let all : c.loop-node.node ≡ c.args.end = omega arith in
    record { going = rw all at c.loop-node.invariant; stuck = λ inside all. absurd (omega arith) }
