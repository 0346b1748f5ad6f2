-- `again::pass_again` meets its contract: no leave counts in a table without any. The loop's invariant: the nodes so far that count are
-- passed.
use mathlib.Core.Path.{refl, sym, ◌∙◌}
use native.Mathlib.Omega.{arith}
use Rattle.leaves.proofs.PassLaws.{none_passed, passed_none, passed-all}
use Rattle.loops.proofs.BuiltLaws.{no_leave_at}
use Rattle.table.proofs.PassingLaws.{read-formed, read-built}
use Rattle.rules.specs.Judgement.{counted}
use Rattle.rules.specs.Table.{decode}
use Rattle.table.proofs.BitLaws.{bit-zero}
use Rattle.visit.specs.Fields.{plane_words}
use Rattle.switches.specs.Aside.{work_planes}
use Rattle.switches.proofs.AgainLaws.{uncounted_leaves, stretch_within, stretch_counts, counting, passed-over}
use Rattle.switches.proofs.FourLaws.{work-length, work_put_work, beside_work}
use Rattle.switches.proofs.again.pass_again.Goals as goal

pub has_leave-requires : goal.has_leave-requires
has_leave-requires c = read-built c.requires.passing.0

pub returns-then-not-has_leave : goal.returns-then-not-has_leave
returns-then-not-has_leave c =
    let (read, beside, high) = c.requires.passing in
    let table = c.args.table.now.bytes.now in
    let planes = c.args.planes.now in
    let formed = read-formed read in
    let none = sym c.has_leave.ensures ∙ c.if-not-has_leave.true in (
      beside,
      none_passed (decode table) formed (counted (decode table)) (uncounted_leaves (decode table) (no_leave_at (decode table) formed none)) _ high (work_planes planes)
          (work-length planes beside.size) (λ k l. rw c.requires.planes_value.1 (bit-zero plane_words k)),
    )

pub loop-first-init : goal.loop-first-init
loop-first-init c =
    let (read, beside, high) = c.requires.passing in
    let planes = c.args.planes.now in (
      omega arith,
      beside,
      passed_none _ _ _ (work_planes planes) high (work-length planes beside.size) c.requires.planes_value.0 c.requires.planes_value.1,
    )

pub next_stretch-requires : goal.next_stretch-requires
next_stretch-requires c =
    let read = c.requires.passing.0 in
    (c.loop-first.invariant.1.size, c.loop-first.invariant.0, omega (arith, c.args.table.now.sized.nodes-read, (read-formed read).nodes-high))

pub pass_nodes-least-requires : goal.pass_nodes-least-requires
pass_nodes-least-requires c =
    let read = c.requires.passing.0 in
    let (inside, beside, so_far) = c.loop-first.invariant in
    let (past, from, some, stretch) = c.in-Some.ensures in
    (read-built read, so_far.high, work-length c.loop-first.planes beside.size, stretch.from, omega (arith, stretch.to, c.args.table.now.sized.nodes-read))

pub loop-first-preserved : goal.loop-first-preserved
loop-first-preserved c =
    let read = c.requires.passing.0 in
    let table = c.args.table.now.bytes.now in
    let planes = c.loop-first.planes in
    let (inside, beside, so_far) = c.loop-first.invariant in
    let (past, from, some, stretch) = c.in-Some.ensures in
    let formed = read-formed read in
    let all = c.args.table.now.sized.nodes-read in
    let within = stretch_within (decode table) formed planes beside all stretch in
    let counts = stretch_counts (decode table) formed planes beside all stretch in
    let words = c.pass_nodes-least.new.planes in
    let passed = c.pass_nodes-least.ensures in
    let at_first = passed-over table formed planes beside _ c.in-Some.first past from (omega arith) _ _ (work_planes planes) _ so_far in (
      stretch.to,
      beside_work planes beside.size words passed.size beside,
      rw (work_put_work planes beside.size words passed.size)
          (passed.passed (counting table formed _ _ within counts _ (omega arith)) _ _ at_first),
    )

pub returns : goal.returns
returns c =
    let read = c.requires.passing.0 in
    let (inside, beside, so_far) = c.loop-first.invariant in
    let all = c.args.table.now.sized.nodes-read in
    let planes = c.loop-first.planes in
    let past = rw all at c.in_default.ensures in
    let done = passed-over c.args.table.now.bytes.now (read-formed read) planes beside _ _ past (omega arith) (omega arith) _ _ (work_planes planes) _ so_far in
    (beside, passed-all _ _ _ _ done refl)
