-- `process::step::assign` meets its contract.
use Rattle.process.proofs.StackedLaws.{stacked-set}
use Rattle.rules.specs.Process.{advanced}
use lib.ListN.{length-set}
use native.Mathlib.Omega.{arith}
use mathlib.Core.Path.{◌∙◌}
use Rattle.process.proofs.step.assign.Goals as goal

pub pop-requires : goal.pop-requires
pop-requires c = stacked-set _ _ _ (omega arith) c.requires.1

pub shape_of-words : goal.shape_of-words
shape_of-words c = c.pop.auto.words ∙ simp length-set

pub returns : goal.returns
unfolding advanced
returns c = rw (← c.value_at-value.ensures) c.pop.ensures
