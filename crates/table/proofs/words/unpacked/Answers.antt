-- `words::unpacked` meets its contract: the fields are divided out of the word as the definition says.
use mathlib.Core.Path.{refl}
use Rattle.rules.specs.Table.{unpacked}
use Rattle.table.proofs.words.unpacked.Goals as goal

pub returns : goal.returns
unfolding unpacked
returns c = refl
