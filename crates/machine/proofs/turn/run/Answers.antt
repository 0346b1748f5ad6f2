-- `machine::turn::run` meets its contract.
use Rattle.machine.proofs.OutcomeLaws.{run_alone, run-meets}
use Rattle.machine.proofs.TeamLaws.{ready-stacked, ready-statement, ready-topped, ready-turn}
use Rattle.process.proofs.StatementLaws.{statement-below}
use Rattle.table.proofs.PassingLaws.{read-formed}
use Rattle.rules.specs.declared.Node.{Node}
use Rattle.rules.specs.Table.{Program, node_at}
use Rattle.rules.specs.Process.{top}
use Prim.Native.Nat.{ℕ}
use mathlib.Core.List.{List}
use mathlib.Core.Path.{◌≡◌, sym, ◌∙◌, ap}
use Rattle.machine.proofs.turn.run.Goals as goal

-- the node read is the one on top of the process's stack
on_top : (program : Program) {words here : List ℕ} {n : ℕ} {m : Node} → words ≡ here → n ≡ top words → m ≡ node_at program n
    → m ≡ node_at program (top here)
on_top program read topped is = is ∙ ap (node_at program) (topped ∙ ap top read)

pub top-n-requires : goal.top-n-requires
top-n-requires c = rw c.process_at.ensures (ready-stacked c.requires.0 c.requires.1)

pub node_at-node-requires : goal.node_at-node-requires
node_at-node-requires c =
    let given = c.requires in
    rw (rw c.process_at.ensures at c.top-n.ensures, c.args.table.now.sized.nodes-read)
    (statement-below _ (read-formed given.0.team.read) _ (ready-statement given.0 given.1))

pub move_on-requires : goal.move_on-requires
move_on-requires c =
    let given = c.requires in
    let here = on_top _ c.process_at.ensures c.top-n.ensures c.node_at-node.ensures in
    let alone = sym c.is_collective.ensures ∙ c.if-not-is_collective.true in
    (given.0.team, given.0.within, given.1, ready-turn given.0 given.1 here alone)

pub returns-then-not-is_collective : goal.returns-then-not-is_collective
returns-then-not-is_collective c =
    let here = on_top _ c.process_at.ensures c.top-n.ensures c.node_at-node.ensures in
    rw (run_alone _ _ _ _ _ _ here (sym c.is_collective.ensures ∙ c.if-not-is_collective.true)) c.move_on.ensures

pub meet-requires : goal.meet-requires
meet-requires c =
    let given = c.requires in
    let here = on_top _ c.process_at.ensures c.top-n.ensures c.node_at-node.ensures in
    (given.0, given.1, ready-topped given.0 given.1 here, sym c.is_collective.ensures ∙ c.if-not-is_collective.false)

pub returns : goal.returns
returns c =
    let here = on_top _ c.process_at.ensures c.top-n.ensures c.node_at-node.ensures in
    rw (run-meets _ _ _ _ _ _ here (sym c.is_collective.ensures ∙ c.if-not-is_collective.false)) c.meet.ensures
