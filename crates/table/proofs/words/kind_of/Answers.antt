-- `words::kind_of` meets its contract.
use mathlib.Core.Path.{refl}
use Rattle.rules.specs.Table.{unpacked}
use Rattle.table.proofs.words.kind_of.Goals as goal

pub returns : goal.returns
unfolding unpacked
returns c = refl
