-- `collectives::arrivals::none_runs` meets its contract. The loop has passed only processes that do not run.
use Rattle.collectives.proofs.DownLaws.{from-none, from_more, from_all}
use Rattle.rules.proofs.ChoiceLaws.{all_true, all-false}
use borrow.Author.Tests.{eq-eqb, ne_eqb}
use native.Mathlib.Omega.{arith}
use Prim.Native.Nat.{◌-◌}
use mathlib.Core.Path.{sym, ◌∙◌, ap}
use mathlib.Core.Bool.{not}
use Rattle.collectives.proofs.arrivals.none_runs.Invariants.{stopped}
use Rattle.collectives.proofs.arrivals.none_runs.Goals as goal

pub loop-p-init : goal.loop-p-init
loop-p-init c = from-none _ _

pub returns-then-status_at-eq-RUNNING : goal.returns-then-status_at-eq-RUNNING
returns-then-status_at-eq-RUNNING c =
    let args = c.args in
    let loop = c.loop-p in
    sym (all-false (stopped args.roll.now) args.count (loop.p - 1)
    (omega (arith, c.loop-p-test.true))
    (ap not (eq-eqb _ _ (sym c.status_at.ensures ∙ c.if-status_at-eq-RUNNING.true))))

pub loop-p-preserved : goal.loop-p-preserved
loop-p-preserved c =
    from_more _ c.loop-p.p _ c.loop-p-test.true c.loop-p.invariant
    (ap not (ne_eqb _ _ (λ e. c.if-status_at-eq-RUNNING.false (c.status_at.ensures ∙ e))))

pub returns : goal.returns
returns c =
    let args = c.args in
    sym (all_true (stopped args.roll.now) args.count
    (from_all (stopped args.roll.now) c.loop-p.p args.count c.loop-p-test.false c.loop-p.invariant))
