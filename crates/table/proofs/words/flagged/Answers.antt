-- `words::flagged` meets its contract: word 1, shifted, ends in the flag.
use Rattle.rules.specs.Table.{decode, flagged}
use borrow.Author.Tests.{lt-ltb}
use Rattle.table.proofs.words.flagged.Goals as goal

pub returns : goal.returns
unfolding decode flagged
returns c = simp (c.word.ensures, lt-ltb _ _ c.requires.1)
