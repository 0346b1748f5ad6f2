-- `preconditions::fitting::wait_fits` meets its contract.
use Rattle.process.proofs.StatementLaws.{statement-below}
use Rattle.table.proofs.PassingLaws.{read-formed}
use Rattle.rules.specs.Table.{decode, node_at, statement_at, statement_of, on_collective}
use Rattle.rules.specs.Step.{wait_fits, lacked_zero}
use borrow.Author.Tests.{eq-eqb, ne_eqb}
use mathlib.Core.Path.{sym, ◌∙◌, ap}
use mathlib.Core.Bool.{false}
use Rattle.preconditions.proofs.fitting.wait_fits.Goals as goal

pub returns-then-entry-node_of : goal.returns-then-entry-node_of
unfolding wait_fits
returns-then-entry-node_of c = rw (ne_eqb _ _ (λ e. c.if-entry-node_of.true (c.top-entry.ensures ∙ e ∙ sym c.node_of.ensures)))

pub node_at-requires : goal.node_at-requires
node_at-requires c =
    let given = c.requires in
    rw (c.top-entry.ensures, c.args.table.now.sized.nodes-read)
    (statement-below _ (read-formed given.0) _ given.3)

pub returns : goal.returns
unfolding wait_fits statement_at
returns c =
    let top-call = c.top-entry in
    let args = c.args in
    let here = c.node_at.ensures ∙ ap (node_at (decode args.table.now.bytes.now)) top-call.ensures in
    rw (eq-eqb _ _ (sym top-call.ensures ∙ c.if-entry-node_of.false ∙ c.node_of.ensures))
    (c.lacked_zero.ensures ∙ ap (λ m. on_collective (statement_of m) (lacked_zero args.roll.now args.p) false) here)
