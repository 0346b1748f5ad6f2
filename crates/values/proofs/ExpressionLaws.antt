-- The value at a node by the expression that it is: what `evaluate` needs at each of its answers.
use Rattle.std.proofs.Common.{◌≡◌, ℕ, ◌<◌, ◌≤◌, true, List, ap, ◌∙◌, arith, leb-true}
use Rattle.rules.specs.declared.Node.{Node}
use Rattle.rules.specs.Evaluation.{Environment, value_of, value}
use Rattle.rules.specs.Table.{Program, decode, last_expression, nodes, node_at, unpacked, expression_of, Expression, operation}
use Rattle.rules.specs.WellFormed.{is_expression, expression_part, well_formed}
use Rattle.rules.proofs.Formed.{Formed, formed}
use Rattle.rules.proofs.KindLaws.{operation_of, expression-here}
use Rattle.rules.proofs.PartLaws.{expression_part-below, expression_part-sort}
use Rattle.rules.proofs.ValueLaws.{value-at}
use Rattle.table.specs.Header.{Passing}
use Rattle.values.specs.Given.{operator_of, Part}

pub record Packed (m : Node) : Type 0 where
  pub a-low : m.a < 512
  pub b-low : m.b < 512
  pub c-low : m.c < 512

packed : (table : List ℕ) (n : ℕ) → Packed (node_at (decode table) n)
unfolding decode node_at unpacked
packed table n = record { a-low = omega arith; b-low = omega arith; c-low = omega arith }

pub packed-here : (table : List ℕ) (n : ℕ) (m : Node) → m ≡ node_at (decode table) n → Packed m
packed-here table n m here = rw here (packed table n)

-- kinds 6 to 12 are the operators in their order
pub operator_of_lem : (m : Node) → 6 ≤ m.kind → m.kind ≤ 12
    → expression_of m ≡ operation (operator_of m.kind) m.a m.b
unfolding operator_of
operator_of_lem m h k = operation_of m h k

-- a part of node n lies below it and is an expression of the table
pub part-lower : (program : Program) (n a : ℕ) → expression_part program n a ≡ true → n < nodes program
    → (a < n) × Part program a
part-lower program n a e l =
    let below : a < n = expression_part-below program n a e in
    (below, (omega arith, expression_part-sort program n a e))

-- what the code's tests say of a node m that the table has at n
module _ (program : Program) (formed : Formed program) (n : ℕ) (m : Node) (here : m ≡ node_at program n) where
  -- the value at the node, by the expression that it is
  pub value-here : (env : Environment) (e : Expression) → expression_of m ≡ e
      → value program env n ≡ value_of env (value program env) e
  value-here env e t =
      value-at program formed env n ∙ ap (λ x. value_of env (value program env) x) (expression-here program n m here t)

  pub kind-low : is_expression program n ≡ true → m.kind ≤ last_expression
  unfolding is_expression
  kind-low e = rw (← here) at (leb-true (node_at program n).kind last_expression e)

-- and of the node that is read of a table that passed 2 to 12 and 26
module _ (table : List ℕ) (read : Passing well_formed table) (n : ℕ) (part : Part (decode table) n) (m : Node)
    (here : m ≡ node_at (decode table) n) where
  pub read-shape : Formed (decode table)
  read-shape = formed table read.passed

  pub read-low : m.kind ≤ last_expression
  read-low = kind-low (decode table) read-shape n m here part.1
