-- What a table that passed its questions is.
use mathlib.Core.List.{List}
use mathlib.Core.Path.{◌≡◌}
use Prim.Native.Nat.{ℕ}
use Rattle.rules.specs.Answers.{Accepted, ◌then◌}
use Rattle.rules.specs.Table.{decode}
use Rattle.rules.specs.WellFormed.{question6, question26, built_by, well_built, well_formed}
use Rattle.rules.proofs.AnswerLaws.{then_first, then_assoc}
use Rattle.rules.proofs.Formed.{Formed, built, formed}
use Rattle.table.specs.Header.{Passing}
use Rattle.table.specs.Sized.{shape_verdict}

pub built-formed : {table : List ℕ} → Passing well_built table → Formed (decode table)
built-formed {table} b = built table b.passed

module _ {table : List ℕ} (r : Passing well_formed table) where
  pub read-formed : Formed (decode table)
  read-formed = formed table r.passed

  pub read-built : Passing well_built table
  unfolding well_formed
  read-built = record { passed = then_first (well_built table) (question26 (decode table)) r.passed }

  -- what `Table::of` asks
  pub read-shaped : shape_verdict table ≡ Accepted
  unfolding well_built shape_verdict
  read-shaped = then_first (shape_verdict table) (question6 table then built_by (decode table)) (simp (then_assoc, read-built.passed))
