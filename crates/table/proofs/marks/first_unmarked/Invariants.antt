-- `marks::first_unmarked` meets its contract. The loop's invariant: every node of the words passed is marked.
use Rattle.table.specs.Marks.{bit_at}
use Rattle.rules.proofs.ChoiceLaws.{Passed}
use Prim.Native.Nat.{◌*◌}
use Rattle.table.proofs.marks.first_unmarked.Given as goal

abbrev pub invariant-loop-i : goal.invariant-loop-i
invariant-loop-i l = Passed (bit_at l.marks) (32 * l.i)
