-- `machine::team::step` meets its contract.
use Rattle.machine.proofs.VerdictSteps.{denied-team}
use Rattle.std.proofs.lemmas.Result.{err_from_is_err_and}
use mathlib.Core.Path.{sym, ◌∙◌}
use Rattle.machine.proofs.team.step.Goals as goal

pub returns-in_err-asked : goal.returns-in_err-asked
returns-in_err-asked c =
    let p = err_from_is_err_and c.from_residual.result c.from_residual.ensures.1 in
    rw (p.1, p.2) (denied-team _ _ _ _ (sym c.asked.ensures ∙ c.in_err-asked.was))
