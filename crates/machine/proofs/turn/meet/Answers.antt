-- `machine::turn::meet` meets its contract. Where the arrival is the last, every process waits and holds an entry.
use Rattle.machine.proofs.OutcomeLaws.{arrived, met}
use Rattle.machine.proofs.TeamLaws.{all-stacked, meeting_of}
use Rattle.rules.proofs.StatusLaws.{one_node_waits}
use mathlib.Core.Path.{sym, ◌∙◌}
use Rattle.machine.proofs.turn.meet.Goals as goal

pub returns-then-not-all_at_one_node : goal.returns-then-not-all_at_one_node
returns-then-not-all_at_one_node c =
    let written = c.arrive_in.ensures in
    rw written
    (arrived _ _ _ _ _ (rw c.process_at.ensures at c.top-n.ensures)
    (rw written at (sym c.all_at_one_node.ensures ∙ c.if-not-all_at_one_node.true))
    (rw written at c.team_status-team.ensures))

pub complete-requires-clause-at_collective : goal.complete-requires-clause-at_collective
complete-requires-clause-at_collective c =
    let (ready, runs, topped, meets) = c.requires in
    let written = c.arrive_in.ensures in
    let together = rw written at (sym c.all_at_one_node.ensures ∙ c.if-not-all_at_one_node.false) in
    (rw written (meeting_of ready runs _ together topped.here meets), ready.team.stated)

pub complete-requires-clause-by_index : goal.complete-requires-clause-by_index
complete-requires-clause-by_index c =
    all-stacked c.requires.0 c.requires.1 _
    (rw c.arrive_in.ensures at (sym c.all_at_one_node.ensures ∙ c.if-not-all_at_one_node.false))

pub release-requires-clause-by_index : goal.release-requires-clause-by_index
release-requires-clause-by_index c q l =
    one_node_waits _ _ q (sym c.all_at_one_node.ensures ∙ c.if-not-all_at_one_node.false) l

pub returns : goal.returns
returns c =
    let written = c.arrive_in.ensures in
    met _ _ _ _ _ (rw c.process_at.ensures at c.top-n.ensures)
    (rw written at (sym c.all_at_one_node.ensures ∙ c.if-not-all_at_one_node.false))
    (rw written at c.complete.ensures) (rw written at c.release.ensures) c.team_status-after.ensures
