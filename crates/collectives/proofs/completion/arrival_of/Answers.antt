-- `collectives::completion::arrival_of` meets its contract.
use Rattle.collectives.proofs.CollectiveLaws.{is-barrier, is-broadcast, is-exchange, broadcast-fits, exchange-fits}
use Rattle.process.proofs.AloneLaws.{collective_range}
use Rattle.collectives.proofs.ArrivalMoves.{arrive-running}
use Rattle.rules.specs.Collective.{arrival_of}
use native.Mathlib.Omega.{arith}
use mathlib.Core.Path.{◌∙◌}
use Rattle.collectives.proofs.completion.arrival_of.Goals as goal

pub returns-then-node-eq-BARRIER : goal.returns-then-node-eq-BARRIER
unfolding arrival_of
returns-then-node-eq-BARRIER c =
    let args = c.args in
    rw (is-barrier args.node c.if-node-eq-BARRIER.true, ← c.top-n.ensures)
    (c.arrive.ensures ∙ arrive-running args.arrival _ _ _ c.requires.2)

pub value_at-value-requires : goal.value_at-value-requires
value_at-value-requires c =
    let given = c.requires in
    record { given = given.0.given; part = (exchange-fits given.0 c.if-node-eq-EXCHANGE.true).0 }

pub returns-then-node-eq-EXCHANGE : goal.returns-then-node-eq-EXCHANGE
unfolding arrival_of
returns-then-node-eq-EXCHANGE c =
    let top = c.top-n in
    let args = c.args in
    let given = c.requires in
    rw (is-exchange args.node c.if-node-eq-EXCHANGE.true, ← top.ensures, ← c.value_at-value.ensures)
    (c.arrive-then-node-eq-EXCHANGE.ensures ∙ arrive-running args.arrival _ _ _ given.2)

pub value_at-value-requires-2 : goal.value_at-value-requires-2
value_at-value-requires-2 c =
    let given = c.requires in
    let range = collective_range c.args.node.kind given.1 in
    record { given = given.0.given; part = (broadcast-fits given.0 (omega arith)).1 }

pub value_at-source-requires : goal.value_at-source-requires
value_at-source-requires c =
    let given = c.requires in
    let range = collective_range c.args.node.kind given.1 in
    record { given = given.0.given; part = (broadcast-fits given.0 (omega arith)).2 }

pub returns : goal.returns
unfolding arrival_of
returns c =
    let top = c.top-n in
    let args = c.args in
    let given = c.requires in
    let range = collective_range args.node.kind given.1 in
    rw (
      is-broadcast args.node (omega arith),
      ← top.ensures,
      ← c.value_at-value-2.ensures,
      ← c.value_at-source.ensures,
    )
    (c.arrive-2.ensures ∙ arrive-running args.arrival _ _ _ given.2)
