-- The parts that the way up from a node goes by, and whether a table has a leave.
use Rattle.std.specs.Prelude.{Bool, false, cond, not, ◌&&◌, ◌||◌, ℕ, eqb}
use Rattle.rules.specs.declared.Node.{Node}
use Rattle.rules.specs.Choice.{all_below}
use Rattle.rules.specs.Table.{Program, nodes, statement_at, is_leave}

-- whether a node is a while with node n as its body
abbrev pub has_body : Node → ℕ → Bool
has_body m n = eqb m.kind 20 && eqb m.b n

-- whether node n is a part of a node and stands in the same while as it
abbrev pub has_part : Node → ℕ → Bool
has_part m n =
    cond (eqb m.kind 18) (eqb m.a n || eqb m.b n)
    (cond (eqb m.kind 19) (eqb m.b n || eqb m.c n) false)

-- whether a node of the table is a leave
abbrev pub has_leave : Program → Bool
has_leave program = not (all_below (λ n. not (is_leave (statement_at program n))) (nodes program))
