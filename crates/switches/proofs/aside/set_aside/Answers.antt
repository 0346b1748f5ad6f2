-- `aside::set_aside` meets its contract. The loop's invariant: the nodes from n on are passed.
use mathlib.Core.Path.{◌≡◌}
use Prim.Native.Nat.{◌+◌, ◌-◌}
use native.Mathlib.Omega.{arith}
use Rattle.table.proofs.PassingLaws.{read-formed}
use Rattle.switches.proofs.AsideLaws.{aside_none, aside-more, aside-all}
use Rattle.switches.proofs.aside.set_aside.Goals as goal

pub loop-n-init : goal.loop-n-init
loop-n-init c = rw (c.args.table.now.sized.nodes-read, c.requires.1) (aside_none _ (read-formed c.requires.0))

pub set_node-requires : goal.set_node-requires
set_node-requires c = (c.requires.0, omega (arith, c.args.table.now.sized.nodes-read), c.loop-n.invariant.size)

pub loop-n-preserved : goal.loop-n-preserved
loop-n-preserved c =
    let turn = c.loop-n in
    let formed = read-formed c.requires.0 in
    let last : turn.n ≡ turn.n - 1 + 1 = omega arith in
    rw c.set_node.ensures
    (aside-more _ formed (turn.n - 1) turn.aside (omega (arith, c.args.table.now.sized.nodes-read)) (rw last at turn.invariant))

pub returns : goal.returns
returns c =
    let loop = c.loop-n in
    let none : loop.n ≡ 0 = omega arith in
    aside-all _ (read-formed c.requires.0) loop.aside (rw none at loop.invariant)
