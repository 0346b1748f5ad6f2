-- What questions 6 and 9 say of bodies and of the parts of a node: each lies below what names it.
use mathlib.Core.Bool.{true}
use mathlib.Core.List.{List}
use mathlib.Core.Path.{◌≡◌, sym, ◌∙◌}
use Prim.Native.Nat.{ℕ, ◌<◌, ◌^◌, ◌%◌}
use lib.Dec.{eqb}
use borrow.Author.Tests.{ltb-true}
use Rattle.rules.specs.declared.Node.{Node}
use Rattle.rules.specs.Answers.{Accepted}
use Rattle.rules.specs.Table.{Program, decode, procedures, nodes, body, node_at, procedure_word}
use Rattle.rules.specs.WellFormed.{node_fits, procedure_fits, question6, question9}
use Rattle.rules.proofs.AnswerLaws.{both_right, each-passed}
use Rattle.rules.proofs.PartLaws.{expression_part-below, statement_part-below}
use Rattle.table.specs.declared.fields.Role.{Role}
use Rattle.table.specs.declared.fields.Role.TheVariants.{Unnamed, Variable, Expression, Statement, Procedure, Half, Area}
use Rattle.table.specs.Header.{header_of}
use Rattle.table.specs.Roles.{roles_of, is_part, field_fits}
use Rattle.table.specs.Sized.{Sized}
use Rattle.table.specs.Uses.{Fitting}
use Rattle.table.proofs.RoleLaws.{fits_law}
use Rattle.table.proofs.TestLaws.{never, all_three}

pub body-low : (table : List ℕ) (p : ℕ) → procedure_fits table p ≡ true → body (decode table) p < nodes (decode table)
unfolding procedure_fits
body-low table p fits =
    ltb-true (body (decode table) p) (nodes (decode table)) (both_right (eqb (procedure_word table p % 2 ^ 23) 0) _ fits)

pub fitting : (table : List ℕ) → Sized table (header_of table) → question6 table ≡ Accepted
    → question9 (decode table) ≡ Accepted
    → Fitting table
fitting table s passed6 passed9 =
    record {
      sized = s;
      bodies = λ p l. body-low table p (each-passed 6 (procedures (decode table)) (procedure_fits table) passed6 p l);
      fits = each-passed 9 (nodes (decode table)) (node_fits (decode table)) passed9;
    }

-- a part that fits lies below its node
pub part-below : (program : Program) (n : ℕ) (role : Role) (value : ℕ) → field_fits program n role value ≡ true
    → is_part role ≡ true
    → value < n
unfolding field_fits
part-below program n Unnamed value fits part = never (sym part)
part-below program n Variable value fits part = never (sym part)
part-below program n Expression value fits part = expression_part-below program n value fits
part-below program n Statement value fits part = statement_part-below program n value fits
part-below program n Procedure value fits part = never (sym part)
part-below program n Half value fits part = never (sym part)
part-below program n Area value fits part = never (sym part)

-- the fields of a node that fits
module _ (program : Program) (n : ℕ) (fits : node_fits program n ≡ true) where
  abbrev m : Node
  m = node_at program n

  abbrev Fits : Role → ℕ → Type 0
  Fits role value = field_fits program n role value ≡ true

  pub fields_fit : Fits (roles_of m.kind).a m.a × Fits (roles_of m.kind).b m.b × Fits (roles_of m.kind).c m.c
  fields_fit = all_three _ _ _ (sym (fits_law program n) ∙ fits)
