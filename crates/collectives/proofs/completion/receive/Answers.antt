-- `collectives::completion::receive` meets its contract.
use Rattle.collectives.proofs.CollectiveLaws.{is-barrier, is-broadcast, is-exchange}
use Rattle.process.proofs.AloneLaws.{collective_range}
use Rattle.rules.specs.Collective.{received}
use native.Mathlib.Omega.{arith}
use Rattle.collectives.proofs.completion.receive.Goals as goal

pub gather-requires : goal.gather-requires
gather-requires c =
    let given = c.requires in
    (given.1, given.0.rolled, given.0.few, given.0.filled c.in-25.is)

pub returns-in-25 : goal.returns-in-25
unfolding received
returns-in-25 c =
    let args = c.args in
    rw (is-exchange args.node c.in-25.is) c.gather.ensures

pub bounds-words-node : goal.bounds-words-node
bounds-words-node c =
    let given = c.requires in
    omega (arith, given.0.stored c.in-24.is)

pub returns-in-24 : goal.returns-in-24
unfolding received
returns-in-24 c =
    let args = c.args in
    rw (
      is-broadcast args.node c.in-24.is,
      c.sent_by.ensures,
      c.source_of-source.ensures,
    )

pub returns-in_default : goal.returns-in_default
unfolding received
returns-in_default c = rw (is-barrier c.args.node (omega (arith, collective_range c.args.node.kind c.requires.0.meets)))
