-- `bodies::sweep_uses` meets its contract: after the nodes and the bodies only the nodes that are not used remain.
use Rattle.sweep.proofs.BodyLaws.{uses-met}
use Rattle.sweep.proofs.bodies.sweep_uses.Goals as goal

pub returns : goal.returns
returns c =
    let given = c.args.table.now.sized in
    let done = c.sweep_bodies-best.ensures in
    uses-met given done.0 done.2 c.unused.ensures
