-- `collectives::arrivals::team_status` meets its contract.
use Rattle.rules.specs.Arrivals.{team_status}
use mathlib.Core.Path.{sym, ◌∙◌}
use Rattle.collectives.proofs.arrivals.team_status.Goals as goal

pub returns-then-not-none_runs : goal.returns-then-not-none_runs
unfolding team_status
returns-then-not-none_runs c = rw (sym c.none_runs.ensures ∙ c.if-not-none_runs.true)

pub returns-then-all_ended : goal.returns-then-all_ended
unfolding team_status
returns-then-all_ended c =
    rw (
      sym c.none_runs.ensures ∙ c.if-not-none_runs.false,
      sym c.all_ended.ensures ∙ c.if-all_ended.true,
    )

pub returns-else-all_ended : goal.returns-else-all_ended
unfolding team_status
returns-else-all_ended c =
    rw (
      sym c.none_runs.ensures ∙ c.if-not-none_runs.false,
      sym c.all_ended.ensures ∙ c.if-all_ended.false,
    )
