-- `scheduler::next_process` meets its contract. The processes passed over do not run.
use Rattle.scheduler.proofs.NextLaws.{passes, one_on, found-next, found_none}
use Rattle.rules.proofs.ChoiceLaws.{passed_none, passed-more}
use Rattle.rules.specs.Arrivals.{running, status_at}
use Rattle.rules.specs.Scheduling.{place_after}
use borrow.Author.Tests.{eq-eqb, ne_eqb}
use native.Mathlib.Nat.{mod-lt, mod-eq_of_lt}
use native.Mathlib.Omega.{arith}
use Prim.Native.Nat.{ℕ, ◌+◌, ◌%◌}
use mathlib.Core.Bool.{not}
use mathlib.Core.Path.{◌≡◌, sym, ◌∙◌, ap}
use Rattle.scheduler.proofs.next_process.Goals as goal

pub loop-passed-init : goal.loop-passed-init
loop-passed-init c =
    let last = c.args.last in
    let e : last + 0 ≡ last = omega arith in
    record { at = rw e (sym (mod-eq_of_lt c.requires.1)); idle = passed_none _ }

pub after-p-requires : goal.after-p-requires
after-p-requires c = rw c.loop-passed.invariant.at (mod-lt _ (omega arith))

-- the process looked at is the next place
here : (count last p passed : ℕ) {next : ℕ} → p ≡ (last + passed) % count → next ≡ (p + 1) % count → next ≡ place_after count last passed
here count last p passed at e = e ∙ one_on count last p passed at

pub returns-then-status_at-eq-RUNNING : goal.returns-then-status_at-eq-RUNNING
returns-then-status_at-eq-RUNNING c =
    let loop = c.loop-passed in
    let args = c.args in
    let at = here args.count args.last loop.p loop._passed loop.invariant.at c.after-p.ensures in
    let runs : status_at args.roll.now (place_after args.count args.last loop._passed) ≡ running =
    rw at at (sym c.status_at.ensures ∙ c.if-status_at-eq-RUNNING.true) in
    rw at
    (found-next args.roll.now args.count args.last c.requires.0 loop._passed c.loop-passed-test.true
    loop.invariant.idle (ap not (eq-eqb _ _ runs)))

pub loop-passed-preserved : goal.loop-passed-preserved
loop-passed-preserved c =
    let loop = c.loop-passed in
    let args = c.args in
    let at = here args.count args.last loop.p loop._passed loop.invariant.at c.after-p.ensures in
    let idles : status_at args.roll.now (place_after args.count args.last loop._passed) ≡ running → ⊥ =
    λ e. c.if-status_at-eq-RUNNING.false (c.status_at.ensures ∙ rw at e) in
    let on : args.last + 1 + loop._passed ≡ args.last + (loop._passed + 1) = omega arith in
    record {
      at = rw on at at;
      idle = passed-more (passes args.roll.now args.count args.last) loop._passed loop.invariant.idle
          (ap not (ne_eqb _ _ idles));
    }

pub returns : goal.returns
returns c =
    let args = c.args in
    let end : c.loop-passed._passed ≡ args.count = omega arith in
    found_none args.roll.now args.count args.last c.requires.0 (rw end at c.loop-passed.invariant.idle)
