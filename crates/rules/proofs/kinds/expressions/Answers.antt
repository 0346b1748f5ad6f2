-- `expressions` meets its contract: the view of each kind computes.
use mathlib.Core.Path.{refl}
use Rattle.rules.specs.Table.{expression_of}
use Rattle.rules.proofs.kinds.expressions.Goals as goal

pub returns : goal.returns
unfolding expression_of
returns c = λ _ _ _. refl
