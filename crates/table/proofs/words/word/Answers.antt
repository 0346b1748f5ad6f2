-- `words::word` meets its contract: four bytes, each below 256.
use native.Mathlib.Omega.{arith}
use Rattle.rules.specs.Table.{word_at}
use Rattle.table.proofs.words.word.Goals as goal

pub returns : goal.returns
unfolding word_at
returns c = omega arith
