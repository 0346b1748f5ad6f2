-- `machine::turn::arrive_in` meets its contract.
use Rattle.collectives.proofs.ArrivalMoves.{running-at}
use Rattle.rules.specs.Arrivals.{with_arrival}
use mathlib.Core.Path.{◌∙◌, ap}
use Rattle.machine.proofs.turn.arrive_in.Goals as goal

pub arrival_of-arrival-requires : goal.arrival_of-arrival-requires
arrival_of-arrival-requires c =
    let given = c.requires in (
      rw c.process_at-words.ensures given.3,
      given.4,
      ap (λ r. r.status) c.read.ensures ∙ running-at _ _ given.2,
    )

pub returns : goal.returns
returns c =
    let process_at_lem = c.process_at-words in
    let args = c.args in
    c.write.ensures
    ∙ ap (with_arrival args.roll.now args.p) (rw process_at_lem.ensures at c.arrival_of-arrival.ensures)
