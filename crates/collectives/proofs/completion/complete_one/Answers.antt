-- `collectives::completion::complete_one` meets its contract.
use Rattle.process.proofs.StackedLaws.{stacked-by}
use Rattle.collectives.proofs.CollectiveLaws.{stores_low}
use Rattle.rules.proofs.StackLaws.{received-length, received-depth}
use Rattle.collectives.proofs.completion.complete_one.Goals as goal

pub pop-requires : goal.pop-requires
pop-requires c =
    let args = c.args in
    let given = c.requires in
    rw c.receive.ensures
    (stacked-by (received-length _ _ _ _ _)
    (received-depth _ _ _ _ _ given.0.few (stores_low args.node given.0.stored given.0.filled)) given.1)

pub returns : goal.returns
returns c = rw (← c.receive.ensures) c.pop.ensures
