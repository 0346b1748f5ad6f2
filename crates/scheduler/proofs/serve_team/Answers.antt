-- `scheduler::serve_team` meets its contract.
use Rattle.scheduler.proofs.ServingSteps.{served-asked}
use Rattle.machine.proofs.VerdictSteps.{asked-formed, asked_of}
use Rattle.rules.specs.Step.{processes_in}
use Rattle.table.proofs.PassingLaws.{read-shaped}
use native.Mathlib.Omega.{arith}
use Rattle.scheduler.proofs.serve_team.Goals as goal

pub overflow_cast-count : goal.overflow_cast-count
unfolding processes_in
overflow_cast-count c =
    let args = c.args in
    let all = asked_of _ _ _ _ c.requires in
    omega (arith, all.team.few)

pub of-requires : goal.of-requires
of-requires c = read-shaped (record { passed = asked-formed _ _ _ _ c.requires })

pub serve_asked-requires : goal.serve_asked-requires
unfolding processes_in
serve_asked-requires c = rw c.of.ensures (asked_of _ _ _ _ c.requires)

pub returns : goal.returns
returns c =
    let given = c.requires in
    rw (served-asked _ _ _ _ _ given) (rw c.of.ensures at c.serve_asked.ensures)
