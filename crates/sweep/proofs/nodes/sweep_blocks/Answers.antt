-- `nodes::sweep_blocks` meets its contract. The loop's invariant: the blocks so far are swept, and nothing failed in them.
use native.Mathlib.Omega.{arith}
use Rattle.sweep.proofs.NodeLaws.{blocking_none, blocking_ends, block-stops, block_more}
use Rattle.sweep.proofs.nodes.sweep_blocks.Goals as goal

pub loop-p-init : goal.loop-p-init
loop-p-init c = rw c.requires (blocking_none _)

pub returns-then-reached-last : goal.returns-then-reached-last
returns-then-reached-last c =
    block-stops _ c.loop-p.invariant _ (omega (arith, c.args.table.now.sized.nodes-read)) _ _ c.sweep_quickly-reached.ensures

pub loop-p-preserved : goal.loop-p-preserved
loop-p-preserved c =
    let given = c.args.table.now.sized in
    block_more _ c.loop-p.invariant _ (omega (arith, given.nodes-read)) _ _ c.sweep_quickly-reached.ensures
    (omega (arith, given.procedures-read)) (omega arith) c.body-last.ensures (λ less. omega arith)

pub returns : goal.returns
returns c = blocking_ends _ c.loop-p.invariant (omega (arith, c.args.table.now.sized.procedures-read))
