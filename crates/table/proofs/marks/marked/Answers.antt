-- `marks::marked` meets its contract: the shifted word ends in the bit.
use mathlib.Core.Path.{refl}
use Rattle.table.specs.Marks.{bit_at, has_bit}
use Rattle.table.proofs.marks.marked.Goals as goal

pub returns : goal.returns
unfolding bit_at has_bit
returns c = refl
