-- `ask_calls` meets its contract: 12 from the first call that fails it, 26 from the first leave, then the least of 13 to 17.
use mathlib.Core.Logic.{inl}
use mathlib.Core.Path.{refl, ◌∙◌}
use native.Mathlib.Omega.{arith}
use Rattle.rules.specs.Table.{decode, nodes, statement_at}
use Rattle.rules.proofs.Formed.{built}
use Rattle.visit.specs.Facts.{guard_code}
use Rattle.visit.proofs.LeastLaws.{least-high}
use Rattle.sweep.proofs.FormedLaws.{refused12, accepted12, refused26, unjudged, judged-next, judged-verdict, well-built}
use Rattle.sweep.proofs.ask_calls.Goals as goal

pub returns-then-call-table : goal.returns-then-call-table
returns-then-call-table c = c.refused.ensures ∙ refused12 c.args.table.now.sized c.first_call-call.ensures.first _ c.if-call-table.true

pub pass_leaves-rule-requires : goal.pass_leaves-rule-requires
pass_leaves-rule-requires c =
    let filled = c.requires.filled.0 in
    let called = c.first_call-call.ensures in
    let kept = c.requires.kept_to in
    let passed = well-built filled (accepted12 c.args.table.now.sized called.first c.args.judged c.if-call-table.false) in record {
      passing = (
        record { passed = passed },
        omega (arith, kept.ruled.least, least-high (guard_code (decode c.args.table.now.bytes.now) (statement_at (decode c.args.table.now.bytes.now))) (nodes (decode c.args.table.now.bytes.now))),
        called.size,
      );
      noted_to = rw called.leaves kept.noted;
    }

pub first_loose-leave-requires : goal.first_loose-leave-requires
first_loose-leave-requires c =
    let filled = c.requires.filled.0 in
    let called = c.first_call-call.ensures in
    let passed = well-built filled (accepted12 c.args.table.now.sized called.first c.args.judged c.if-call-table.false) in
    let leaves = c.pass_leaves-rule.ensures in
    record { passing = (record { passed = passed }, leaves.size); held_to = leaves.held }

pub returns-then-leave-table : goal.returns-then-leave-table
returns-then-leave-table c =
    c.refused-then-leave-table.ensures
    ∙ refused26 c.args.table.now.sized c.first_call-call.ensures.first _ c.if-call-table.false c.first_loose-leave.ensures
    c.if-leave-table.true

pub unflagged-requires : goal.unflagged-requires
unflagged-requires c =
    let leaves = c.pass_leaves-rule.ensures in
    (c.requires.filled.0, leaves.size, leaves.high)

pub verdict-requires : goal.verdict-requires
verdict-requires c = omega (arith, c.unflagged.ensures, c.pass_leaves-rule.ensures.high)

pub returns-then-judged : goal.returns-then-judged
returns-then-judged c =
    let filled = c.requires.filled.0 in
    let sized = c.args.table.now.sized in
    let called = c.first_call-call.ensures in
    let passed = well-built filled (accepted12 sized called.first c.args.judged c.if-call-table.false) in
    let leaves = c.pass_leaves-rule.ensures in
    let kept = c.requires.kept_to in
    let whole = statement_at (decode c.args.table.now.bytes.now) in
    c.verdict.ensures
    ∙ judged-verdict (built _ passed) whole (λ k. inl refl) (rw (leaves.facts ∙ called.facts) kept.ruled.facts)
    kept.ruled.least (leaves.least (rw called.facts kept.ruled.facts)) c.unflagged.ensures
    ∙ judged-next sized c.first_call-call.ensures.first _ c.if-call-table.false c.first_loose-leave.ensures
    c.if-leave-table.false c.if-judged.true

pub returns : goal.returns
returns c =
    unjudged c.args.table.now.sized c.first_call-call.ensures.first _ c.if-call-table.false c.first_loose-leave.ensures
    c.if-leave-table.false c.if-judged.false
