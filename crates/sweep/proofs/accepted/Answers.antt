-- `accepted` meets its contract: 13 to 17 are asked too.
use Rattle.sweep.specs.Asked.{asked}
use Rattle.sweep.proofs.accepted.Goals as goal

pub returns : goal.returns
unfolding asked
returns c = c.ask.ensures
