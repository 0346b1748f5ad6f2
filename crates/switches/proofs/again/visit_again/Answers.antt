-- `again::visit_again` meets its contract. The loop's invariant: the nodes so far that count are visited.
use native.Mathlib.Omega.{arith}
use Rattle.rules.specs.Judgement.{counted}
use Rattle.rules.specs.Table.{decode}
use Rattle.sweep.proofs.FormedLaws.{well-filled}
use Rattle.table.proofs.PassingLaws.{read-formed}
use Rattle.visit.specs.Facts.{guard_code}
use Rattle.visit.proofs.LeastLaws.{least-high}
use Rattle.switches.specs.Aside.{work_planes}
use Rattle.switches.proofs.AgainLaws.{clean-nodes, stretch_within, stretch_counts, swept_whole, visited_on, visited-over, visited-none}
use Rattle.switches.proofs.FourLaws.{work-length, work_put_work, beside_work}
use Rattle.switches.proofs.again.visit_again.Goals as goal

pub loop-node-init : goal.loop-node-init
loop-node-init c = (omega arith, c.requires.1, rw c.requires.2 (visited-none _ (read-formed c.requires.0)))

pub next_stretch-requires : goal.next_stretch-requires
next_stretch-requires c =
    let read = c.requires.0 in
    (c.loop-node.invariant.1.size, c.loop-node.invariant.0, omega (arith, c.args.table.now.sized.nodes-read, (read-formed read).nodes-high))

pub sweep_quickly-least-requires : goal.sweep_quickly-least-requires
sweep_quickly-least-requires c =
    let table = c.args.table.now.bytes.now in
    let (inside, beside, so_far) = c.loop-node.invariant in
    let (past, from, some, stretch) = c.in-Some.ensures in (
      omega arith,
      stretch.to,
      work-length c.loop-node.planes beside.size,
      omega (arith, so_far.ruled.least, least-high (guard_code (decode table) (counted (decode table))) c.loop-node.n),
    )

pub loop-node-preserved : goal.loop-node-preserved
loop-node-preserved c =
    let read = c.requires.0 in
    let table = c.args.table.now.bytes.now in
    let planes = c.loop-node.planes in
    let (inside, beside, so_far) = c.loop-node.invariant in
    let (past, from, some, stretch) = c.in-Some.ensures in
    let formed = read-formed read in
    let filled = well-filled read in
    let all = c.args.table.now.sized.nodes-read in
    let within = stretch_within (decode table) formed planes beside all stretch in
    let counts = stretch_counts (decode table) formed planes beside all stretch in
    let words = c.sweep_quickly-least.new.planes in
    let quickly = c.sweep_quickly-least.ensures in
    let many = quickly.going.size in
    let clean = clean-nodes formed filled in
    let at_first = visited-over table formed planes beside _ c.in-Some.node past from (omega arith) (work_planes planes) _ so_far in
    let limit = c.args.table.now.sized.procedures-read in
    let whole = swept_whole table formed _ _ within counts clean _ limit (work_planes planes) words _ _ at_first quickly in
    let visited = visited_on table formed _ _ within counts clean _ limit (work_planes planes) words _ _ at_first quickly in (
      stretch.to,
      beside_work planes beside.size words many beside,
      rw (work_put_work planes beside.size words many) (rw whole at visited),
    )

pub returns : goal.returns
returns c =
    let (inside, beside, so_far) = c.loop-node.invariant in
    let all = c.args.table.now.sized.nodes-read in
    let planes = c.loop-node.planes in
    let past = rw all at c.in_default.ensures in
    (beside, visited-over c.args.table.now.bytes.now (read-formed c.requires.0) planes beside _ _ past (omega arith) (omega arith) (work_planes planes) _ so_far)
