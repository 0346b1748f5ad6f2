-- `loose::body_closed` meets its contract.
use native.Mathlib.Omega.{arith}
use Rattle.table.proofs.PassingLaws.{built-formed}
use Rattle.leaves.proofs.loose.body_closed.Goals as goal

pub overflow_cast-body : goal.overflow_cast-body
overflow_cast-body c =
    let given = c.requires in
    let few = (built-formed given.0).body_below c.args.p (omega (arith, c.args.table.now.sized.procedures-read)) in
    record { fits = omega (arith, c.body.ensures, few, (built-formed given.0).nodes-high) }
