-- What the code works out of the uses of nodes: marks for question 11, and the bound that question 12 goes by.
use Rattle.std.specs.Prelude.{true, cond, List, [], ◌∷◌, ◌≡◌, ℕ, ◌<◌, min}
use Rattle.rules.specs.Table.{Program, decode, procedures, nodes, body, call, statement_at}
use Rattle.rules.specs.WellFormed.{node_fits}
use Rattle.table.specs.Marks.{bit_at, with_bit}
use Rattle.table.specs.Header.{header_of}
use Rattle.table.specs.Sized.{Sized}

-- what questions 2 to 9 establish: bodies and parts lie below what names them
pub record Fitting (table : List ℕ) : Type 0 where
  pub sized : Sized table (header_of table)
  pub bodies : (p : ℕ) → p < procedures (decode table) → body (decode table) p < nodes (decode table)
  pub fits : (n : ℕ) → n < nodes (decode table) → node_fits (decode table) n ≡ true

-- the lowest node marked twice, once node n is marked
unfoldable pub noted : List ℕ → ℕ → ℕ → ℕ
noted marks lowest n = cond (bit_at marks n) (min n lowest) lowest

-- and once each node of a list is marked
unfoldable pub repeated : List ℕ → ℕ → List ℕ → ℕ
repeated marks lowest [] = lowest
repeated marks lowest (n ∷ nodes) = repeated (with_bit marks n) (noted marks lowest n) nodes

-- node n calls no procedure from `limit` on
abbrev pub CallsBelow : Program → ℕ → ℕ → Type 0
CallsBelow program n limit = (q : ℕ) → statement_at program n ≡ call q → q < limit
