-- `pass_nodes` meets its contract. The loop's invariant: the nodes so far are passed.
use mathlib.Core.Path.{◌≡◌}
use native.Mathlib.Omega.{arith}
use Rattle.leaves.proofs.PassLaws.{stretch_more}
use Rattle.leaves.proofs.pass_nodes.Goals as goal

pub loop-n-preserved : goal.loop-n-preserved
loop-n-preserved c =
    stretch_more _ _ _ _ _ _ _ _ _ _ (omega arith) c.loop-n.invariant c.pass_node.ensures c.lesser-least.ensures

pub returns : goal.returns
returns c =
    let all : c.loop-n.n ≡ c.args.end = omega arith in
    rw all at c.loop-n.invariant
