-- `nearest_loop` meets its contract. The loop's invariant: `inner` has the same nearest while as n, and no node passed names it.
use Rattle.table.proofs.PassingLaws.{built-formed}
use Rattle.loops.proofs.ClimbLaws.{climb_start, climb_found, climb_on, climb_end}
use native.Mathlib.Omega.{arith}
use mathlib.Core.Path.{sym, ◌∙◌}
use Rattle.loops.proofs.nearest_loop.Goals as goal

pub loop-m-init : goal.loop-m-init
loop-m-init c = climb_start _ (built-formed c.requires.0) _

pub returns-then-has_body : goal.returns-then-has_body
returns-then-has_body c =
    climb_found _ (built-formed c.requires.0) _ _ _ _ c.node_at-node.ensures c.loop-m.invariant
    (sym c.has_body.ensures ∙ c.if-has_body.true)

pub loop-m-preserved : goal.loop-m-preserved
loop-m-preserved c =
    rw c.outward-inner.ensures
    (climb_on _ (built-formed c.requires.0) _ _ _ _ c.node_at-node.ensures c.loop-m.invariant
    (sym c.has_body.ensures ∙ c.if-has_body.false))

pub returns : goal.returns
returns c =
    let counted = c.args.table.now.sized.nodes-read in
    counted
    ∙ climb_end _ (built-formed c.requires.0) _ _ _ c.loop-m.invariant (omega (arith, counted))
