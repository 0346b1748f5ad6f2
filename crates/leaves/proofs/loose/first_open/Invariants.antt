-- `loose::first_open` meets its contract: question 26 holds of the nodes passed.
use Rattle.rules.specs.Table.{decode}
use Rattle.rules.specs.WellFormed.{leave_enclosed}
use Rattle.rules.proofs.ChoiceLaws.{Passed}
use Rattle.leaves.proofs.loose.first_open.Given as goal

abbrev pub invariant-loop-n : goal.invariant-loop-n
invariant-loop-n l = Passed (leave_enclosed (decode l.table.bytes.now)) l.n
