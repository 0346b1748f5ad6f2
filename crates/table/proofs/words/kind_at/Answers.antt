-- `words::kind_at` meets its contract.
use mathlib.Core.Path.{◌∙◌}
use Rattle.table.specs.Header.{header_of}
use Rattle.rules.specs.Table.{decode, procedures, node_at}
use Rattle.table.proofs.words.kind_at.Goals as goal

pub returns : goal.returns
unfolding decode procedures node_at header_of
returns c = c.kind_of.ensures ∙ simp (c.word.ensures, c.requires.0)
