-- The questions in the parts that the code asks them in.
use Rattle.std.specs.Prelude.{Bool, cond, not, ◌||◌, List, ◌≡◌, ℕ, length}
use Rattle.rules.specs.Answers.{Verdict, Accepted, ◌then◌}
use Rattle.rules.specs.Acceptance.{judged_by}
use Rattle.rules.specs.Choice.{first_failing}
use Rattle.rules.specs.Table.{Program, decode, nodes, body, effect_flag, statement_at}
use Rattle.rules.specs.WellFormed.{called_below, question12, question26, well_formed}
use Rattle.table.specs.Marks.{bit_at}
use Rattle.table.specs.Sized.{shape_verdict}
use Rattle.visit.specs.Fields.{facts_plane, leaves_plane, all_planes}
use Rattle.visit.specs.Least.{failure}
use Rattle.sweep.specs.Swept.{filled_verdict}

-- the table passes 2 to 11
pub record Filled (table : List ℕ) : Type 0 where
  pub shaped : shape_verdict table ≡ Accepted
  pub passed : filled_verdict table ≡ Accepted

-- the first call that fails 12; facts and leaves are kept
pub record FirstCall (program : Program) (before after : List ℕ) (r : ℕ) : Type 0 where
  pub first : r ≡ first_failing (λ n. called_below program n (statement_at program n)) (nodes program)
  pub facts : facts_plane after ≡ facts_plane before
  pub leaves : leaves_plane after ≡ leaves_plane before
  pub size : length after ≡ all_planes

-- 17 at procedure p by the plane of facts
unfoldable pub effect_code : Program → List ℕ → ℕ → ℕ
effect_code program facts p = failure 17 p (not (bit_at facts (body program p)) || effect_flag program p)

-- the first of questions 12, 26 and 13 to 17 that fails, and of 2 to 12, 26 and 13 to 17, where every node counts as what it is; 13 to
-- 17 are asked only of a table that is judged
unfoldable pub calls_asked : Bool → Program → Verdict
calls_asked strictly program = question12 program then question26 program then cond strictly (judged_by program (statement_at program)) Accepted

unfoldable pub asked : Bool → List ℕ → Verdict
asked strictly table = well_formed table then cond strictly (judged_by (decode table) (statement_at (decode table))) Accepted
