-- What exactly a node comes to: the least refusal so far and the marks of the nodes used.
use Rattle.std.specs.Prelude.{cond, List, [], ◌∷◌, ℕ, min}
use Rattle.rules.specs.Table.{Program, node_at}
use Rattle.rules.specs.WellFormed.{kind_known, unnamed_zero, node_fits, parts_at}
use Rattle.table.specs.Marks.{bit_at, with_bit, with_bits}
use Rattle.visit.specs.Least.{code}

-- 11: a node that is marked already is used twice
unfoldable pub noted_code : List ℕ → ℕ → ℕ → ℕ
noted_code marks best n = cond (bit_at marks n) (min best (code 11 n)) best

unfoldable pub repeated_code : List ℕ → ℕ → List ℕ → ℕ
repeated_code marks best [] = best
repeated_code marks best (n ∷ nodes) = repeated_code (with_bit marks n) (noted_code marks best n) nodes

-- the least refusal and the marks once a node is swept: one that fails 7, 8 or 9 marks nothing
module _ (program : Program) (n : ℕ) where
  unfoldable pub node_best : List ℕ → ℕ → ℕ
  node_best marks best =
      cond (kind_known program n)
      (cond (unnamed_zero (node_at program n))
      (cond (node_fits program n) (repeated_code marks best (parts_at program n)) (min best (code 9 n)))
      (min best (code 8 n)))
      (min best (code 7 n))

  unfoldable pub node_marks : List ℕ → List ℕ
  node_marks marks =
      cond (kind_known program n)
      (cond (unnamed_zero (node_at program n)) (cond (node_fits program n) (with_bits marks (parts_at program n)) marks) marks)
      marks
