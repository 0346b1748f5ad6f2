-- `collectives::arrivals::all_at_one_node` meets its contract. The loop has passed only processes that wait at process 0's node.
use Rattle.collectives.proofs.DownLaws.{from-none, from_more, from_all}
use Rattle.rules.proofs.ChoiceLaws.{all_true}
use Rattle.rules.proofs.StatusLaws.{one_node_not_waiting, one_node_elsewhere}
use Rattle.rules.proofs.AnswerLaws.{both_true}
use Rattle.rules.specs.Arrivals.{all_at_one_node}
use borrow.Author.Tests.{eq-eqb}
use native.Mathlib.Omega.{arith}
use Prim.Native.Nat.{◌-◌, ◌<◌}
use mathlib.Core.Path.{sym, ◌∙◌}
use Rattle.collectives.proofs.arrivals.all_at_one_node.Invariants.{waits_there}
use Rattle.collectives.proofs.arrivals.all_at_one_node.Goals.{then-status_at-ne-WAITING-via-then-status_at-ne-WAITING}
use Rattle.collectives.proofs.arrivals.all_at_one_node.Goals.{then-status_at-ne-WAITING-via-else-status_at-ne-WAITING+then-node_of-node}
use Rattle.collectives.proofs.arrivals.all_at_one_node.Goals as goal

pub loop-p-init : goal.loop-p-init
loop-p-init c = from-none _ _

pub returns-then-status_at-ne-WAITING : goal.returns-then-status_at-ne-WAITING
returns-then-status_at-ne-WAITING c =
    let p = c.loop-p.p in
    let below : p - 1 < c.args.count = omega (arith, c.loop-p-test.true) in
    sym (elim c.then-status_at-ne-WAITING.branch [
      | then-status_at-ne-WAITING-via-then-status_at-ne-WAITING w ↦
          one_node_not_waiting _ _ (p - 1) below (λ e. w.if-status_at-ne-WAITING.true (c.status_at.ensures ∙ e))
      | then-status_at-ne-WAITING-via-else-status_at-ne-WAITING+then-node_of-node w ↦
          one_node_elsewhere _ _ (p - 1) below
          (λ e. w.if-node_of-node.true (w.node_of.ensures ∙ e ∙ sym c.node_of-node.ensures))
    ])

pub loop-p-preserved : goal.loop-p-preserved
loop-p-preserved c =
    let node_of = c.node_of-node in
    from_more _ c.loop-p.p _ c.loop-p-test.true c.loop-p.invariant
    (both_true _ _ (eq-eqb _ _ (sym c.status_at.ensures ∙ c.if-status_at-ne-WAITING.false))
    (eq-eqb _ _ (sym c.node_of.ensures ∙ c.if-node_of-node.false ∙ node_of.ensures)))

pub returns : goal.returns
unfolding all_at_one_node
returns c =
    let args = c.args in
    sym (all_true (waits_there args.roll.now) args.count
    (from_all (waits_there args.roll.now) c.loop-p.p args.count c.loop-p-test.false c.loop-p.invariant))
