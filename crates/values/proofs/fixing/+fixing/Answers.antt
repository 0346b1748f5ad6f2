-- `values::fixing::fixing` meets its contract.
use Rattle.std.proofs.Common.{sym, ap, ◌∙◌, arith}
use Rattle.rules.proofs.KindLaws.{first_part, second-part}
use Rattle.values.specs.Fixed.{fixed_as}
use Rattle.values.proofs.ExpressionLaws.{packed-here, part-lower, read-shape, read-low}
use Rattle.values.proofs.FixingLaws.{fixed-constant, fixed-none, fixed-operation, first-unfixed, second-unfixed}
use Rattle.values.proofs.fixing.+fixing.Goals as goal

pub constant-requires : goal.constant-requires
constant-requires t c =
    let fields = packed-here c.args.table.now.bytes.now c.args.n c.node_at-node.result c.node_at-node.ensures in
    (fields.b-low, fields.c-low)

pub returns-then-node-eq-CONSTANT : goal.returns-then-node-eq-CONSTANT
returns-then-node-eq-CONSTANT t c =
    let here = c.node_at-node.ensures in
    fixed-constant _ (read-shape _ c.requires.0 _ c.requires.1 _ here) _ _ here
    c.if-node-eq-CONSTANT.true c.constant.ensures

pub returns-then-node-lt-SUM : goal.returns-then-node-lt-SUM
returns-then-node-lt-SUM t c =
    let here = c.node_at-node.ensures in
    fixed-none _ (read-shape _ c.requires.0 _ c.requires.1 _ here) _ _ here
    c.if-node-eq-CONSTANT.false c.if-node-lt-SUM.true

pub fixing-requires : goal.fixing-requires
fixing-requires t c =
    let here = c.node_at-node.ensures in
    let fits = first_part _ (read-shape _ c.requires.0 _ c.requires.1 _ here) _ _ here (omega (arith, c.if-node-lt-SUM.false))
    (read-low _ c.requires.0 _ c.requires.1 _ here) in
    let part = part-lower _ _ _ fits c.requires.1.0 in
    (omega arith, (c.requires.0, part.1))

pub returns-in_err-first : goal.returns-in_err-first
returns-in_err-first t c =
    let here = c.node_at-node.ensures in
    rw c.from_residual.ensures
    (first-unfixed _ (read-shape _ c.requires.0 _ c.requires.1 _ here) _ _ here
    c.if-node-lt-SUM.false (read-low _ c.requires.0 _ c.requires.1 _ here)
    (sym (ap fixed_as c.in_err-first.was) ∙ c.fixing.ensures))

pub fixing-requires-2 : goal.fixing-requires-2
fixing-requires-2 t c =
    let here = c.node_at-node.ensures in
    let fits = second-part _ (read-shape _ c.requires.0 _ c.requires.1 _ here) _ _ here c.if-node-lt-SUM.false
    (read-low _ c.requires.0 _ c.requires.1 _ here) in
    let part = part-lower _ _ _ fits c.requires.1.0 in
    (omega arith, (c.requires.0, part.1))

pub returns-in_err-second : goal.returns-in_err-second
returns-in_err-second t c =
    let here = c.node_at-node.ensures in
    rw c.from_residual-in_err-second.ensures
    (second-unfixed _ (read-shape _ c.requires.0 _ c.requires.1 _ here) _ _ here
    c.if-node-lt-SUM.false (read-low _ c.requires.0 _ c.requires.1 _ here)
    (sym (ap fixed_as c.in_err-second.was) ∙ c.fixing-2.ensures))

pub returns : goal.returns
returns t c =
    let here = c.node_at-node.ensures in
    fixed-operation _ (read-shape _ c.requires.0 _ c.requires.1 _ here) _ _ here
    c.if-node-lt-SUM.false (read-low _ c.requires.0 _ c.requires.1 _ here)
    (sym (ap fixed_as c.in_ok-first.was) ∙ c.fixing.ensures)
    (sym (ap fixed_as c.in_ok-second.was) ∙ c.fixing-2.ensures) c.apply.ensures
