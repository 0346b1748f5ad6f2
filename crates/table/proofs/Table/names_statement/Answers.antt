-- `Table::names_statement` meets its contract: a node past the last is no statement.
use Rattle.table.proofs.ShapeLaws.{statement-past}
use borrow.Author.Tests.{le-ltb}
use native.Mathlib.Omega.{arith}
use mathlib.Core.Path.{sym, ◌∙◌}
use Rattle.table.proofs.Table.names_statement.Goals as goal

pub returns-else-n-self : goal.returns-else-n-self
returns-else-n-self c =
    let given = c.args.self.now.sized in
    le-ltb _ _ c.if-n-self.false ∙ sym (statement-past _ _ given _ (omega (arith, given.nodes-read)))
