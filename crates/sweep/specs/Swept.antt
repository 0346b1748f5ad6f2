-- What a sweep keeps: the least refusal so far, and marks of the nodes used.
use Rattle.std.specs.Prelude.{cond, List, ◌≡◌, ℕ, ◌≤◌, ◌<◌, min, ltb, replicate}
use Rattle.rules.specs.Answers.{Verdict, ◌then◌}
use Rattle.rules.specs.Choice.{first_failing}
use Rattle.rules.specs.Table.{Program, decode, procedures, nodes, body, node_at}
use Rattle.rules.specs.WellFormed.{procedure_fits, is_statement, kind_known, unnamed_zero, node_fits, parts_at, joined, uses}
use Rattle.rules.specs.WellFormed.{question6, question7, question8, question9, question10, question11}
use Rattle.table.specs.Marks.{bit_at, with_bit, with_bits}
use Rattle.table.specs.Uses.{repeated}
use Rattle.visit.specs.Exact.{noted_code}
use Rattle.visit.specs.Fields.{plane_words}
use Rattle.visit.specs.Least.{none, code, failure, least_below, verdict_of}

-- questions 6 to 11
unfoldable pub filled_verdict : List ℕ → Verdict
filled_verdict table =
    question6 table then question7 (decode table) then question8 (decode table) then question9 (decode table) then question10 (decode table) then question11 (decode table)

-- the least refusal of 7 to 9 at a node, and of 6 and 10 at a procedure
unfoldable pub node_code : Program → ℕ → ℕ
node_code program n =
    min (failure 7 n (kind_known program n)) (min (failure 8 n (unnamed_zero (node_at program n))) (failure 9 n (node_fits program n)))

unfoldable pub body_code : List ℕ → ℕ → ℕ
body_code table p = min (failure 6 p (procedure_fits table p)) (failure 10 p (is_statement (decode table) (body (decode table) p)))

-- 11 at the place given, if that is a node
abbrev pub misused : ℕ → ℕ → ℕ
misused count place = cond (ltb place count) (code 11 place) none

-- what the least refusal and the marks say once the nodes of a list are used, of `count` nodes, where `early` is the least
-- refusal by an earlier question so far. Once there is one, the marks do not matter any more.
pub data Swept (count early : ℕ) (list : List ℕ) (best : ℕ) (marks : List ℕ) : Type 0 where
  failed : best ≡ early → early < code 11 0 → Swept count early list best marks
  clean : early ≡ none → best ≡ misused count (repeated (replicate plane_words 0) count list) → marks ≡ with_bits (replicate plane_words 0) list
      → Swept count early list best marks

-- the least refusal and the marks once a procedure is swept: one that fails 6 or 10 marks nothing
module _ (table : List ℕ) (p : ℕ) where
  unfoldable pub body_best : List ℕ → ℕ → ℕ
  body_best marks best =
      cond (procedure_fits table p)
      (cond (is_statement (decode table) (body (decode table) p)) (noted_code marks best (body (decode table) p)) (min best (code 10 p)))
      (min best (code 6 p))

  unfoldable pub body_marks : List ℕ → List ℕ
  body_marks marks =
      cond (procedure_fits table p)
      (cond (is_statement (decode table) (body (decode table) p)) (with_bit marks (body (decode table) p)) marks)
      marks

-- once the nodes below n are swept, once all are, and once all procedures are too
abbrev pub SweptTo : Program → ℕ → ℕ → List ℕ → Type 0
SweptTo program n = Swept (nodes program) (least_below (node_code program) n) (joined (parts_at program) n)

abbrev pub AfterNodes : Program → ℕ → List ℕ → Type 0
AfterNodes program = SweptTo program (nodes program)

abbrev pub earlier : List ℕ → ℕ
earlier table = min (least_below (node_code (decode table)) (nodes (decode table))) (least_below (body_code table) (procedures (decode table)))

abbrev pub AfterBodies : List ℕ → ℕ → List ℕ → Type 0
AfterBodies table = Swept (nodes (decode table)) (earlier table) (uses (decode table))

-- 11 of the first node that is not marked, unless an earlier question fails
unfoldable pub unused_best : ℕ → List ℕ → ℕ → ℕ
unused_best count marks best =
    cond (ltb best (code 11 0)) best (min best (misused count (first_failing (bit_at marks) count)))

-- the least refusal of 6 to 11, and what the nodes alone came to where there is none
pub record Uses (table : List ℕ) (first r : ℕ) : Type 0 where
  pub verdict : verdict_of r ≡ filled_verdict table
  pub high : r ≤ none
  pub lower : r ≤ first
