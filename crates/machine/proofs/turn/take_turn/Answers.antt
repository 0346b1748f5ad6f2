-- `machine::turn::take_turn` meets its contract.
use Rattle.machine.proofs.OutcomeLaws.{taken-run, taken-waiting, taken-ended}
use mathlib.Core.Path.{sym, ◌∙◌}
use Rattle.rules.specs.Table.{decode}
use Rattle.machine.proofs.turn.take_turn.Goals as goal

pub returns-then-status-eq-RUNNING : goal.returns-then-status-eq-RUNNING
returns-then-status-eq-RUNNING c =
    let status-at = c.status_at-status in
    let args = c.args in
    rw (taken-run (decode args.table.now.bytes.now) args.state.now args.roll.now args.count args.p
    (sym status-at.ensures ∙ c.if-status-eq-RUNNING.true))
    c.run.ensures

pub returns-then-status-eq-WAITING : goal.returns-then-status-eq-WAITING
returns-then-status-eq-WAITING c =
    taken-waiting _ _ _ _ _ (sym c.status_at-status.ensures ∙ c.if-status-eq-WAITING.true)
    c.team_status-team.ensures

pub returns : goal.returns
returns c =
    let status-at = c.status_at-status in
    taken-ended _ _ _ _ _ (λ e. c.if-status-eq-RUNNING.false (status-at.ensures ∙ e))
    (λ e. c.if-status-eq-WAITING.false (status-at.ensures ∙ e)) c.team_status-team.ensures
