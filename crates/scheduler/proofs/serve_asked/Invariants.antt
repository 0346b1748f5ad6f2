-- `scheduler::serve_asked` meets its contract. Between two turns, the call comes to what serving on from there comes to.
use Rattle.scheduler.proofs.ServingSteps.{Between}
use Rattle.scheduler.specs.Serving.{team_of}
use Rattle.rules.specs.Scheduling.{serving}
use Rattle.scheduler.proofs.serve_asked.Given as goal

abbrev pub invariant-loop-made : goal.invariant-loop-made
invariant-loop-made l =
    Between l.table.bytes.now l.count l.turns
    (serving l.table.bytes.now l.turns 0 l.given (team_of l.initial.state l.initial.roll)) l.state l.roll l.made
    l.last l.unfit
