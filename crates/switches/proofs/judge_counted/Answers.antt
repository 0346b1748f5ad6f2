-- `judge_counted` meets its contract: facts, rules and leaves by the nodes that count, and the least refusal by them.
use mathlib.Core.Path.{◌∙◌, ap}
use native.Mathlib.Omega.{arith}
use borrow.Rule.Slice.PartMut.{mid_of, put_mid}
use lib.ListN.{length}
use Rattle.rules.specs.Judgement.{counted}
use Rattle.rules.specs.Table.{decode, nodes}
use Rattle.table.proofs.PassingLaws.{read-formed}
use Rattle.sweep.proofs.FormedLaws.{well-filled, judged-verdict}
use Rattle.table.proofs.BitLaws.{cleared}
use Rattle.visit.specs.Facts.{guard_code, FactsTo}
use Rattle.visit.specs.Fields.{facts_plane, all_planes}
use Rattle.visit.proofs.LeastLaws.{least-high}
use Rattle.switches.specs.Aside.{work_planes}
use Rattle.switches.proofs.AsideLaws.{each-counted}
use Rattle.switches.proofs.FourLaws.{work-length, work_put_work, beside_work}
use Rattle.switches.proofs.judge_counted.Goals as goal

pub visit_again-guards-requires : goal.visit_again-guards-requires
visit_again-guards-requires c =
    let planes = c.args.planes.now in
    let beside = c.requires.1 in
    let words = c.clear.new.marks in
    let zero = cleared words (mid_of 0 all_planes planes) c.clear.ensures (work-length planes beside.size) in
    let many = ap length zero in (
      c.requires.0,
      beside_work planes beside.size words many beside,
      work_put_work planes beside.size words many ∙ zero,
    )

pub pass_again-rule-requires : goal.pass_again-rule-requires
pass_again-rule-requires c =
    let table = c.args.table.now.bytes.now in
    let (beside, known) = c.visit_again-guards.ensures in
    let planes = c.visit_again-guards.new.planes in
    let clear = c.clear_leaves.ensures in
    let words = c.clear_leaves.new.planes in
    let same = work_put_work planes beside.size words clear.size in record {
      passing = (
        c.requires.0,
        beside_work planes beside.size words clear.size beside,
        omega (arith, known.ruled.least, least-high (guard_code (decode table) (counted (decode table))) (nodes (decode table))),
      );
      planes_value = (rw same clear.left, rw same clear.held);
    }

pub unflagged-requires : goal.unflagged-requires
unflagged-requires c =
    let read = c.requires.0 in
    let leaves = c.pass_again-rule.ensures.1 in
    (well-filled read, leaves.size, leaves.high)

pub returns : goal.returns
returns c =
    let read = c.requires.0 in
    let table = c.args.table.now.bytes.now in
    let (beside, known) = c.visit_again-guards.ensures in
    let planes = c.visit_again-guards.new.planes in
    let clear = c.clear_leaves.ensures in
    let words = c.clear_leaves.new.planes in
    let leaves = c.pass_again-rule.ensures.1 in
    let same = work_put_work planes beside.size words clear.size in
    let facts : FactsTo (decode table) (counted (decode table)) (nodes (decode table)) (facts_plane (work_planes (put_mid 0 all_planes planes words))) =
    rw (same, clear.facts) known.ruled.facts in
    c.verdict.ensures
    ∙ judged-verdict (read-formed read) (counted (decode table)) (each-counted (decode table)) (rw leaves.facts facts)
    known.ruled.least (leaves.least facts) c.unflagged.ensures
