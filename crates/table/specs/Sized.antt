-- Questions 2 to 5, and what they establish: the counts of word 0 and the length that follows from them.
use Rattle.std.specs.Prelude.{List, ◌≡◌, ℕ, ◌+◌, ◌*◌, ◌/◌, ◌%◌, ◌≤◌, Bool, ◌&&◌, leb, eqb, length}
use Rattle.rules.specs.Answers.{Verdict, ◌then◌}
use Rattle.rules.specs.WellFormed.{question2, question3, question4, question5}
use Rattle.rules.specs.Table.{decode, variables, procedures, nodes}
use Rattle.table.specs.declared.Header.{Header}
use Rattle.table.specs.Header.{header_of}

pub record Sized (table : List ℕ) (header : Header) : Type 0 where
  pub read : header ≡ header_of table
  pub variables-read : header.variables ≡ variables (decode table)
  pub procedures-read : header.procedures ≡ procedures (decode table)
  pub nodes-read : header.nodes ≡ nodes (decode table)
  pub variables-low : 1 ≤ variables (decode table)
  pub variables-high : variables (decode table) ≤ 32
  pub procedures-low : 1 ≤ procedures (decode table)
  pub procedures-high : procedures (decode table) ≤ 16
  pub nodes-low : 1 ≤ nodes (decode table)
  pub nodes-high : nodes (decode table) ≤ 256
  pub size : length table ≡ 4 * (2 + procedures (decode table) + nodes (decode table))

-- question 3, of word 0 and the counts that it packs
abbrev pub header_test : ℕ → Header → Bool
header_test first counts =
    eqb (first / 268435456) 1
    && ((leb 1 counts.variables && leb counts.variables 32)
    && ((leb 1 counts.procedures && leb counts.procedures 16)
    && ((leb 1 counts.nodes && leb counts.nodes 256) && eqb (first % 256) 0)))

unfoldable pub shape_verdict : List ℕ → Verdict
shape_verdict table = question2 table then question3 table then question4 table then question5 table
