-- `words::packed_at` meets its contract: there is a node n, so the test holds.
use Rattle.rules.specs.Table.{decode, procedures, node_at}
use Rattle.table.specs.Header.{header_of}
use native.Mathlib.Omega.{arith}
use Rattle.table.proofs.words.packed_at.Goals as goal

pub returns-then-n-header : goal.returns-then-n-header
unfolding decode procedures node_at header_of
returns-then-n-header c = simp (c.word.ensures, c.requires.0)

pub returns : goal.returns
returns c = absurd (omega (arith, c.requires.2, c.if-n-header.false))
