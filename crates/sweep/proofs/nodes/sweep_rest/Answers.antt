-- `nodes::sweep_rest` meets its contract. The loop's invariant: the nodes so far are swept, and something fails at the next.
use native.Mathlib.Omega.{arith}
use Rattle.sweep.proofs.NodeLaws.{resting_none, resting_more}
use Rattle.sweep.proofs.nodes.sweep_rest.Goals as goal

pub loop-reached-init : goal.loop-reached-init
loop-reached-init c =
    resting_none _ _ c.args.table.now.sized _ _ _ _ c.requires c.sweep_quickly-reached.ensures

pub loop-reached-preserved : goal.loop-reached-preserved
loop-reached-preserved c =
    let exact = c.exact-best.ensures in
    let sized = c.args.table.now.sized in
    resting_more _ _ sized _ _ _ _ _ _ _ c.loop-reached.invariant (omega (arith, sized.nodes-read)) exact.0 exact.1
    c.sweep_quickly-reached-in-loop-reached.ensures
