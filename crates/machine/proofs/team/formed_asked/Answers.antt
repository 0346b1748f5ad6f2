-- `machine::team::formed_asked` meets its contract.
use Rattle.machine.proofs.VerdictSteps.{unsized, left_over, team_of_lem}
use Rattle.rules.specs.Step.{processes_in}
use Rattle.std.proofs.lemmas.Result.{err_from_is_err_and}
use Rattle.table.proofs.PassingLaws.{read-shaped}
use native.Mathlib.Omega.{arith}
use mathlib.Core.Path.{sym, ◌∙◌}
use Rattle.machine.proofs.team.formed_asked.Goals as goal

pub returns-in_err-sizes_asked : goal.returns-in_err-sizes_asked
returns-in_err-sizes_asked c =
    let p = err_from_is_err_and c.from_residual.result c.from_residual.ensures.1 in
    rw (p.1, p.2) (sym (unsized _ _ _ _ c.requires (sym c.sizes_asked.ensures ∙ c.in_err-sizes_asked.was)))

pub overflow_cast-count : goal.overflow_cast-count
unfolding processes_in
overflow_cast-count c =
    let args = c.args in
    let team = team_of_lem args.table.now args.state.now args.roll.now args.process c.requires
    (sym c.sizes_asked.ensures ∙ c.in_ok-sizes_asked.was) (record { passed = c.requires }) in
    omega (arith, team.few)

pub of-requires : goal.of-requires
of-requires c = read-shaped (record { passed = c.requires })

pub team_asked-requires : goal.team_asked-requires
unfolding processes_in
team_asked-requires c =
    rw c.of.ensures
    (team_of_lem _ _ _ c.args.process c.requires (sym c.sizes_asked.ensures ∙ c.in_ok-sizes_asked.was)
    (record { passed = c.requires }))

pub returns : goal.returns
unfolding processes_in
returns c =
    (rw c.of.ensures at c.team_asked.ensures)
    ∙ sym (left_over _ _ _ _ c.requires (sym c.sizes_asked.ensures ∙ c.in_ok-sizes_asked.was))
