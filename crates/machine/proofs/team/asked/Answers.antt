-- `machine::team::asked` meets its contract.
use Rattle.machine.proofs.VerdictSteps.{unformed}
use Rattle.std.proofs.lemmas.Result.{err_from_is_err_and}
use mathlib.Core.Path.{sym, ◌∙◌}
use Rattle.machine.proofs.team.asked.Goals as goal

pub returns-in_err-well_formed : goal.returns-in_err-well_formed
returns-in_err-well_formed c =
    let p = err_from_is_err_and c.from_residual.result c.from_residual.ensures.1 in
    rw (p.1, p.2) (sym (unformed _ _ _ _ (sym c.well_formed-2.ensures ∙ c.in_err-well_formed.was)))
