-- `words::effect_flag` meets its contract: the word divided as the definition says.
use Rattle.rules.specs.Table.{decode, procedures, effect_flag, procedure_word}
use borrow.Author.Tests.{lt-ltb}
use Rattle.table.proofs.words.effect_flag.Goals as goal

pub returns : goal.returns
unfolding decode procedures effect_flag procedure_word
returns c = simp (c.word.ensures, lt-ltb _ _ c.requires.1)
