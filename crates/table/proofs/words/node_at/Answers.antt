-- `words::node_at` meets its contract: the fields are divided out of the word as the definition says.
use mathlib.Core.Path.{◌∙◌}
use Rattle.table.specs.Header.{header_of}
use Rattle.rules.specs.Table.{decode, procedures, node_at}
use Rattle.table.proofs.words.node_at.Goals as goal

pub returns : goal.returns
unfolding decode procedures node_at header_of
returns c = c.unpacked.ensures ∙ simp (c.word.ensures, c.requires.0)
