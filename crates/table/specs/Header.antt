-- The counts of word 0 as the code holds them, and a table that passed some questions.
use Rattle.std.specs.Prelude.{List, ◌≡◌, ℕ}
use Rattle.rules.specs.Answers.{Verdict, Accepted}
use Rattle.rules.specs.Table.{decode, variables, procedures, nodes}
use Rattle.table.specs.declared.Header.{Header}

unfoldable pub header_of : List ℕ → Header
header_of table = record { variables = variables (decode table); procedures = procedures (decode table); nodes = nodes (decode table) }

-- a table that passed the questions behind a verdict
pub record Passing (verdict : List ℕ → Verdict) (table : List ℕ) : Type 0 where
  pub passed : verdict table ≡ Accepted
