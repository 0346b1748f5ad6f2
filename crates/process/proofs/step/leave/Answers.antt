-- `process::step::leave` meets its contract.
use Rattle.loops.proofs.BuiltLaws.{nearest_few}
use Rattle.table.proofs.PassingLaws.{read-built}
use native.Mathlib.Omega.{arith}
use Rattle.process.proofs.step.leave.Goals as goal

pub nearest_loop-w-requires : goal.nearest_loop-w-requires
nearest_loop-w-requires c =
    let given = c.requires in
    (read-built given.0, rw c.top.ensures given.2)

pub overflow_cast-w : goal.overflow_cast-w
overflow_cast-w c =
    let given = c.requires in
    omega (arith, c.nearest_loop-w.ensures, nearest_few (read-built given.0) c.top.result)

pub returns : goal.returns
returns c = rw (← c.top.ensures, ← c.nearest_loop-w.ensures) c.unwind.ensures
