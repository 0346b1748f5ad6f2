-- `Table::is_expression` meets its contract: the kind is compared with the last of an expression.
use Rattle.rules.specs.WellFormed.{is_expression}
use Rattle.table.proofs.Table.is_expression.Goals as goal

pub returns : goal.returns
unfolding is_expression
returns c = simp c.node_at.ensures
