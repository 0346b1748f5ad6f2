-- What evaluation is given, the facts that the questions of a start and a step have shown, and the operator that a kind is.
use Rattle.std.specs.Prelude.{◌≡◌, ℕ, ◌-◌, ◌<◌, ◌≤◌, true, List, [], ◌∷◌, length, slice_index_or}
use Rattle.rules.specs.Process.{process_words, most_processes}
use Rattle.rules.specs.Table.{Program, nodes, Operator, sum, difference, product, quotient, less, equal, both}
use Rattle.rules.specs.WellFormed.{well_formed, is_expression}
use Rattle.table.specs.Header.{Passing}

-- a well-formed table, one process's words, and a count of processes
pub record Given (table : List ℕ) (words : List ℕ) (count : ℕ) : Type 0 where
  pub read : Passing well_formed table
  pub sized : length words ≡ process_words
  pub few : count ≤ most_processes

-- kinds 6 to 12, in this order
unfoldable pub operator_of : ℕ → Operator
operator_of kind = slice_index_or (sum ∷ difference ∷ product ∷ quotient ∷ less ∷ equal ∷ []) (kind - 6) both

-- a node that is an expression of the table
abbrev pub Part : Program → ℕ → Type 0
Part program n = (n < nodes program) × (is_expression program n ≡ true)
