-- `scheduler::serve` meets its contract.
use Rattle.scheduler.proofs.ServingSteps.{served-refused}
use mathlib.Core.Path.{sym, ◌∙◌}
use Rattle.scheduler.proofs.serve.Goals as goal

pub serve_team-requires : goal.serve_team-requires
serve_team-requires c = sym c.asked.ensures ∙ c.in-Ok.is

pub returns-in-Err : goal.returns-in-Err
returns-in-Err c = rw c.stopped.ensures (served-refused _ _ _ _ _ (sym c.asked.ensures ∙ c.in-Err.is))
