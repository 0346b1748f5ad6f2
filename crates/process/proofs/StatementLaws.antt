-- What a well-formed table says of the statement that a process has on top, and of its parts.
use mathlib.Core.Bool.{true, false}
use mathlib.Core.List.{List}
use mathlib.Core.Path.{◌≡◌}
use Prim.Native.Nat.{ℕ, ◌<◌}
use native.Mathlib.Decide.{dec_lt}
use native.Mathlib.Omega.{arith}
use Rattle.rules.specs.declared.Node.{Node}
use Rattle.rules.specs.Process.{variable_places, stack_places, environment, depth, top, needs_place}
use Rattle.rules.specs.Table.{Program, decode}
use Rattle.rules.specs.Table.{procedures, nodes, body, unpacked, statement_at, statement_of, Statement, loop}
use Rattle.rules.specs.WellFormed.{is_statement, expression_part, well_formed}
use Rattle.rules.proofs.Formed.{Formed, formed}
use Rattle.rules.proofs.KindLaws.{sequence_of, loop_of, statement-here}
use Rattle.rules.proofs.KindLaws.{assign_fields, branch_fields, loop_fields, call-field, latch_fields}
use Rattle.table.specs.Header.{Passing}
use Rattle.values.specs.Given.{Given, Part}
use Rattle.process.specs.Given.{Stacked, Topped, Turn}
use Rattle.values.proofs.ExpressionLaws.{part-lower}

-- a node past the last is no statement
pub statement-below : (program : Program) → Formed program → (n : ℕ) → is_statement program n ≡ true → n < nodes program
unfolding is_statement unpacked
statement-below program formed n e =
    elim (dec_lt n (nodes program)) [
      | yes l ↦ l
      | no l ↦
          let past = formed.past n (omega arith) in
          let f : false ≡ true = rw past at e in
          let z : ◌≡◌ {A = ℕ} 0 1 = cc in
          absurd (omega arith)
    ]

-- the top statement of a process
module _ {table : List ℕ} {words : List ℕ} {count : ℕ} {m : Node}
    (t : Topped table words count m) where
  pub top-formed : Formed (decode table)
  top-formed = formed table t.given.read.passed

  top_below : top words < nodes (decode table)
  top_below = statement-below (decode table) top-formed (top words) t.statement

  pub top-statement : {s : Statement} → statement_of m ≡ s → statement_at (decode table) (top words) ≡ s
  top-statement e = statement-here (decode table) (top words) m t.here e

  -- a part that question 9 asks about
  pub top_part : {a : ℕ} → expression_part (decode table) (top words) a ≡ true → Part (decode table) a
  top_part {a} e = (part-lower (decode table) (top words) a e top_below).1

  pub top-test : m.kind ≡ 20 → Part (decode table) m.a
  top-test e = top_part (loop_fields (decode table) top-formed (top words) m t.here e).0

-- what each kind's function asks of a process whose turn it is
module _ {table : List ℕ} {words : List ℕ} {own count : ℕ} {m : Node}
    (t : Turn table words own count m) where
  shape : Formed (decode table)
  shape = top-formed t.topped

  pub turn-assign : m.kind ≡ 17 → Given table words count × Stacked words × (m.a < variable_places) × Part (decode table) m.b
  turn-assign e =
      let f = assign_fields (decode table) shape (top words) m t.topped.here e in
      (t.topped.given, t.topped.stacked, omega (arith, f.0, shape.variables-high), top_part t.topped f.1)

  pub turn-sequence : m.kind ≡ 18 → Stacked words × (depth words < stack_places)
  unfolding needs_place
  turn-sequence e = (t.topped.stacked, t.place (rw (top-statement t.topped (sequence_of m e))))

  pub turn-branch : m.kind ≡ 19 → Given table words count × Stacked words × Part (decode table) m.a
  turn-branch e =
      let f = branch_fields (decode table) shape (top words) m t.topped.here e in
      (t.topped.given, t.topped.stacked, top_part t.topped f.0)

  pub turn-loop : m.kind ≡ 20 → Given table words count × Stacked words × Part (decode table) m.a
  turn-loop e = (t.topped.given, t.topped.stacked, top-test t.topped e)

  pub turn_repeat : m.kind ≡ 20
      → needs_place (decode table) (environment words own count) (loop m.a m.b) ≡ true
      → depth words < stack_places
  turn_repeat e n = t.place (rw (top-statement t.topped (loop_of m e)) n)

  pub turn-call : m.kind ≡ 21 → Stacked words × (m.a < procedures (decode table))
  turn-call e = (t.topped.stacked, call-field (decode table) shape (top words) m t.topped.here e)

  pub turn_body : m.kind ≡ 21 → body (decode table) m.a < 256
  turn_body e = omega (arith, shape.body_below m.a (turn-call e).1, shape.nodes-high)

  pub turn-latch : m.kind ≡ 22 → Given table words count × Stacked words × Part (decode table) m.a × Part (decode table) m.b
  turn-latch e =
      let f = latch_fields (decode table) shape (top words) m t.topped.here e in
      (t.topped.given, t.topped.stacked, top_part t.topped f.0, top_part t.topped f.1)

  pub turn-leave : Passing well_formed table × Stacked words × (top words < nodes (decode table))
  turn-leave = (t.topped.given.read, t.topped.stacked, top_below t.topped)
