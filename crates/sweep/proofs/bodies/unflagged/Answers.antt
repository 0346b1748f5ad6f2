-- `bodies::unflagged` meets its contract: the least refusal so far is that of the nodes and of the procedures asked.
use native.Mathlib.Omega.{arith}
use Rattle.rules.specs.Table.{decode}
use Rattle.visit.specs.Fields.{facts_plane}
use Rattle.visit.specs.Least.{least_below}
use Rattle.visit.proofs.LeastLaws.{least_more}
use Rattle.sweep.specs.Asked.{effect_code}
use Rattle.sweep.proofs.bodies.unflagged.Goals as goal

pub loop-p-init : goal.loop-p-init
unfolding least_below
loop-p-init c = omega (arith, c.requires.2)

pub loop-p-preserved : goal.loop-p-preserved
loop-p-preserved c =
    let args = c.args in
    let more = least_more (effect_code (decode args.table.now.bytes.now) (facts_plane args.planes.now)) c.loop-p.p in
    omega (arith, c.loop-p.invariant, c.flag_body-best.ensures, more)
