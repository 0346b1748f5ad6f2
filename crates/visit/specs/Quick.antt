-- A node at which nothing fails.
use Rattle.std.specs.Prelude.{true, List, ◌≡◌, ℕ}
use Rattle.rules.specs.Table.{Program, node_at}
use Rattle.rules.specs.WellFormed.{kind_known, unnamed_zero, node_fits, parts_at}
use Rattle.table.specs.Marks.{with_bits}
use Rattle.visit.specs.Exact.{repeated_code}

-- it passes 7 to 9, none of its parts was used, and all are afterwards
pub record Quick (program : Program) (n : ℕ) (before after : List ℕ) : Type 0 where
  pub known : kind_known program n ≡ true
  pub zero : unnamed_zero (node_at program n) ≡ true
  pub fits : node_fits program n ≡ true
  pub fresh : (best : ℕ) → repeated_code before best (parts_at program n) ≡ best
  pub used : after ≡ with_bits before (parts_at program n)
