-- `preconditions::fitting::leave_fits` meets its contract.
use Rattle.table.proofs.PassingLaws.{read-formed, read-built}
use Rattle.process.proofs.StatementLaws.{statement-below}
use Rattle.rules.specs.Step.{leave_fits}
use Rattle.preconditions.proofs.fitting.leave_fits.Goals as goal

pub nearest_loop-requires : goal.nearest_loop-requires
nearest_loop-requires c =
    let given = c.requires in
    (read-built given.0, rw c.top.ensures (statement-below _ (read-formed given.0) _ given.2))

pub returns : goal.returns
unfolding leave_fits
returns c =
    rw (c.requires.3, ← c.top.ensures)
    (rw (← c.nearest_loop.ensures) c.lies_below.ensures)
