-- `words::body` meets its contract: the word divided as the definition says.
use Rattle.rules.specs.Table.{decode, procedures, body, procedure_word}
use borrow.Author.Tests.{lt-ltb}
use Rattle.table.proofs.words.body.Goals as goal

pub returns : goal.returns
unfolding decode procedures body procedure_word
returns c = simp (c.word.ensures, lt-ltb _ _ c.requires.1)
