-- Procedures whose bodies stand in their order: a node between two bodies belongs to the later procedure or to one behind it. If it
-- calls below the later, every call names a procedure below its own, and no walk is needed.
use Rattle.std.specs.Prelude.{ℕ, ◌+◌, ◌≤◌, ◌<◌}
use Rattle.rules.specs.Table.{Program, body}
use Rattle.table.specs.Uses.{CallsBelow}

-- the nodes below n lie in blocks, one for each procedure below p: each ends with its procedure's body, and its nodes call below that
-- procedure
pub data Blocks (program : Program) : ℕ → ℕ → Type 0 where
  none : Blocks program 0 0
  more : (n p : ℕ) → Blocks program n p → n ≤ body program p
      → ((k : ℕ) → n ≤ k → k < body program p + 1 → CallsBelow program k p) → Blocks program (body program p + 1) (p + 1)
