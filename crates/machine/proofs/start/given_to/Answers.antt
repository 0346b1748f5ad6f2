-- `machine::start::given_to` meets its contract.
use native.Mathlib.Omega.{arith}
use Prim.Native.Nat.{◌+◌, ◌-◌, ◌*◌}
use mathlib.Core.Path.{◌≡◌}
use Rattle.machine.proofs.start.given_to.Goals as goal

pub returns : goal.returns
returns c =
    let size = c.args.size in
    let from = size * c.args.p in
    let same : from + size - from ≡ size = omega arith in
    rw same
