-- `words::header` meets its contract: the counts are divided out of word 0 as the definitions say.
use Rattle.table.specs.Header.{header_of}
use Rattle.rules.specs.Table.{decode, variables, procedures, nodes}
use Rattle.table.proofs.words.header.Goals as goal

pub returns : goal.returns
unfolding header_of decode variables procedures nodes
returns c = simp c.word-first.ensures
