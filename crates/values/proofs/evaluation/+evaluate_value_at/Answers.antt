-- `values::evaluation::evaluate` and `value_at` meet their contracts.
use Rattle.std.proofs.Common.{◌≡◌, ℕ, ◌<◌, ◌≤◌, List, length, sym, refl, ◌∙◌, arith}
use Rattle.rules.specs.declared.Node.{Node}
use Rattle.rules.specs.Evaluation.{value, value_of}
use Rattle.rules.specs.Process.{process_words, environment}
use Rattle.rules.specs.Table.{decode, node_at, Expression, expression_of, door, slot, operation}
use Rattle.rules.proofs.KindLaws.{door_of, slot_of, variable-field, slot_fields, first_part, second-part}
use Rattle.values.specs.Given.{Given, Part, operator_of}
use Rattle.values.proofs.ExpressionLaws.{Packed, packed-here, part-lower, value-here, operator_of_lem, read-shape, read-low}
use Rattle.values.proofs.evaluation.+evaluate_value_at.Goals as goal

-- of the node m that was read
module _ {table : List ℕ} {words : List ℕ} {count : ℕ} (given : Given table words count) {n : ℕ}
    (part : Part (decode table) n) {m : Node} (here : m ≡ node_at (decode table) n) where
  -- what a leaf is given
  leaf_fields : m.kind < 4 → (m.kind < 4) × (m.b < 512) × (m.c < 512) × (length words ≡ process_words)
  leaf_fields l = let fields : Packed m = packed-here table n m here in (l, fields.b-low, fields.c-low, given.sized)

  leaf_variable : m.kind ≡ 1 → m.a < process_words
  leaf_variable e =
      let f = read-shape table given.read n part m here in
      omega (arith, variable-field (decode table) f n m here e, f.variables-high)

  -- the node's value is that of its expression
  valued : (own : ℕ) (e : Expression) → expression_of m ≡ e
      → value_of (environment words own count) (value (decode table) (environment words own count)) e
      ≡ value (decode table) (environment words own count) n
  valued own e same =
      sym (value-here (decode table) (read-shape table given.read n part m here) n m here (environment words own count) e same)

pub evaluate-leaf-requires-clause-kind_bound : goal.evaluate-leaf-requires-clause-kind_bound
evaluate-leaf-requires-clause-kind_bound t c =
    leaf_fields c.requires.given c.requires.part c.node_at-node.ensures c.if-node-lt-DOOR.true

pub evaluate-leaf-requires-clause-a_lt_process_words : goal.evaluate-leaf-requires-clause-a_lt_process_words
evaluate-leaf-requires-clause-a_lt_process_words t c = leaf_variable c.requires.given c.requires.part c.node_at-node.ensures

pub evaluate-returns-then-node-lt-DOOR : goal.evaluate-returns-then-node-lt-DOOR
evaluate-returns-then-node-lt-DOOR t c =
    c.leaf.ensures _ ∙ valued c.requires.given c.requires.part c.node_at-node.ensures c.args.own _ refl

pub evaluate-value_at-x-requires : goal.evaluate-value_at-x-requires
evaluate-value_at-x-requires t c =
    let given = c.requires.given in
    let here = c.node_at-node.ensures in
    let fits = first_part _ (read-shape _ given.read _ c.requires.part _ here) _ _ here c.if-node-lt-DOOR.false
    (read-low _ given.read _ c.requires.part _ here) in
    let part = part-lower _ _ _ fits c.requires.part.0 in
    (omega arith, (given, part.1))

pub evaluate-returns-then-node-eq-DOOR : goal.evaluate-returns-then-node-eq-DOOR
unfolding value_of
evaluate-returns-then-node-eq-DOOR t c =
    let m = c.node_at-node.result in
    let env = environment c.args.words.now c.args.own c.args.count in
    let known : c.value_at-x.result ≡ value (decode c.args.table.now.bytes.now) env m.a = c.value_at-x.ensures in
    c.door.ensures
    ∙ rw known (valued c.requires.given c.requires.part c.node_at-node.ensures c.args.own (door m.a) (door_of m c.if-node-eq-DOOR.true))

pub evaluate-slot-requires : goal.evaluate-slot-requires
evaluate-slot-requires t c =
    let given = c.requires.given in
    let here = c.node_at-node.ensures in
    let fields = slot_fields _ (read-shape _ given.read _ c.requires.part _ here) _ _ here c.if-node-eq-SLOT.true in
    (given.sized, given.few, fields.1)

pub evaluate-returns-then-node-eq-SLOT : goal.evaluate-returns-then-node-eq-SLOT
unfolding value_of
evaluate-returns-then-node-eq-SLOT t c =
    let m = c.node_at-node.result in
    let env = environment c.args.words.now c.args.own c.args.count in
    let known : c.value_at-x.result ≡ value (decode c.args.table.now.bytes.now) env m.a = c.value_at-x.ensures in
    c.slot.ensures
    ∙ rw known (valued c.requires.given c.requires.part c.node_at-node.ensures c.args.own (slot m.a m.b) (slot_of m c.if-node-eq-SLOT.true))

pub evaluate-value_at-y-requires : goal.evaluate-value_at-y-requires
evaluate-value_at-y-requires t c =
    let given = c.requires.given in
    let here = c.node_at-node.ensures in
    let fits = second-part _ (read-shape _ given.read _ c.requires.part _ here) _ _ here (omega arith)
    (read-low _ given.read _ c.requires.part _ here) in
    let part = part-lower _ _ _ fits c.requires.part.0 in
    (omega arith, (given, part.1))

pub evaluate-returns : goal.evaluate-returns
unfolding value_of
evaluate-returns t c =
    let m = c.node_at-node.result in
    let here = c.node_at-node.ensures in
    let env = environment c.args.words.now c.args.own c.args.count in
    let left : c.value_at-x.result ≡ value (decode c.args.table.now.bytes.now) env m.a = c.value_at-x.ensures in
    let right : c.value_at-y.result ≡ value (decode c.args.table.now.bytes.now) env m.b = c.value_at-y.ensures in
    let high : 6 ≤ m.kind =
    omega (arith, c.if-node-eq-SLOT.false, c.if-node-eq-DOOR.false, c.if-node-lt-DOOR.false) in
    let same = operator_of_lem m high (read-low _ c.requires.given.read _ c.requires.part _ here) in
    c.apply.ensures
    ∙ rw (left, right) (valued c.requires.given c.requires.part here c.args.own (operation (operator_of m.kind) m.a m.b) same)

pub value_at-leaf-requires-clause-kind_bound : goal.value_at-leaf-requires-clause-kind_bound
value_at-leaf-requires-clause-kind_bound t c =
    leaf_fields c.requires.given c.requires.part c.node_at-node.ensures c.if-node-lt-DOOR.true

pub value_at-leaf-requires-clause-a_lt_process_words : goal.value_at-leaf-requires-clause-a_lt_process_words
value_at-leaf-requires-clause-a_lt_process_words t c = leaf_variable c.requires.given c.requires.part c.node_at-node.ensures

pub value_at-returns-then-node-lt-DOOR : goal.value_at-returns-then-node-lt-DOOR
value_at-returns-then-node-lt-DOOR t c =
    c.leaf.ensures _ ∙ valued c.requires.given c.requires.part c.node_at-node.ensures c.args.own _ refl
