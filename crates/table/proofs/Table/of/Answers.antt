-- `Table::of` meets its contract: a table that passed questions 2 to 5 has the size that its counts say.
use Rattle.table.proofs.ShapeLaws.{sized}
use native.Mathlib.Omega.{arith}
use Rattle.table.proofs.Table.of.Goals as goal

pub header-requires : goal.header-requires
header-requires c =
    let given = sized _ c.requires in
    omega (arith, given.size)

pub invariant_of-result : goal.invariant_of-result
invariant_of-result c = record { sized = rw c.header.ensures (sized _ c.requires) }
