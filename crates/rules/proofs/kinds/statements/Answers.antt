-- `statements` meets its contract: the view of each kind computes.
use mathlib.Core.Path.{refl}
use Rattle.rules.specs.Table.{statement_of}
use Rattle.rules.proofs.kinds.statements.Goals as goal

pub returns : goal.returns
unfolding statement_of
returns c = λ _ _ _. refl
