-- `preconditions::place_lacked` meets its contract.
use Rattle.preconditions.proofs.FittingLaws.{run-stacked, run-statement, run-topped}
use Rattle.process.proofs.StatementLaws.{statement-below}
use Rattle.table.proofs.PassingLaws.{read-formed}
use Rattle.rules.proofs.ProcessLaws.{process_length}
use Rattle.rules.specs.Table.{decode, node_at}
use Rattle.rules.specs.Step.{place_lacked}
use Rattle.rules.specs.Process.{top}
use borrow.Author.Tests.{eq-eqb, ne_eqb}
use lib.ListN.{length}
use native.Mathlib.Omega.{arith}
use mathlib.Core.Path.{sym, ◌∙◌, ap}
use Rattle.preconditions.proofs.place_lacked.Goals as goal

pub returns-then-status_at-ne-RUNNING : goal.returns-then-status_at-ne-RUNNING
unfolding place_lacked
returns-then-status_at-ne-RUNNING c = rw (ne_eqb _ _ (λ e. c.if-status_at-ne-RUNNING.true (c.status_at.ensures ∙ e)))

pub bounds-words-120 : goal.bounds-words-120
bounds-words-120 c =
    let args = c.args in
    let given = c.requires in
    omega (
      arith,
      ap length c.process_at-words.ensures
          ∙ process_length args.state.now args.count args.p given.0.stated given.1,
    )

pub returns-then-words-ne-MOST_DEPTH : goal.returns-then-words-ne-MOST_DEPTH
unfolding place_lacked
returns-then-words-ne-MOST_DEPTH c =
    rw (
      eq-eqb _ _ (sym c.status_at.ensures ∙ c.if-status_at-ne-RUNNING.false),
      ← c.process_at-words.ensures,
      ne_eqb _ _ c.if-words-ne-MOST_DEPTH.true,
    )

pub top-requires : goal.top-requires
top-requires c =
    let given = c.requires in
    rw c.process_at-words.ensures
    (run-stacked given.0 given.1 given.2
    (sym c.status_at.ensures ∙ c.if-status_at-ne-RUNNING.false))

pub node_at-node-requires : goal.node_at-node-requires
node_at-node-requires c =
    let status-at = c.status_at in
    let given = c.requires in
    let read = given.0.read in
    let runs = sym status-at.ensures ∙ c.if-status_at-ne-RUNNING.false in
    rw (c.top.ensures ∙ ap top c.process_at-words.ensures, c.args.table.now.sized.nodes-read)
    (statement-below _ (read-formed read) _ (run-statement given.0 given.1 given.2 runs))

pub needs_place-requires : goal.needs_place-requires
needs_place-requires c =
    let process_at_lem = c.process_at-words in
    let status-at = c.status_at in
    let given = c.requires in
    let runs = sym status-at.ensures ∙ c.if-status_at-ne-RUNNING.false in
    let here =
    c.node_at-node.ensures
    ∙ ap (node_at (decode c.args.table.now.bytes.now))
    (c.top.ensures ∙ ap top process_at_lem.ensures) in
    rw process_at_lem.ensures (run-topped given.0 given.1 given.2 runs here)

pub returns : goal.returns
unfolding place_lacked
returns c =
    let process_at_lem = c.process_at-words in
    let status-at = c.status_at in
    rw (
      eq-eqb _ _ (sym status-at.ensures ∙ c.if-status_at-ne-RUNNING.false),
      ← process_at_lem.ensures,
      eq-eqb _ _ c.if-words-ne-MOST_DEPTH.false,
    )
    c.needs_place.ensures
