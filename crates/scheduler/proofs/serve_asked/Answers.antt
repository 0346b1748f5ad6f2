-- `scheduler::serve_asked` meets its contract. Between two turns, the call comes to what serving on from there comes to.
use Rattle.table.proofs.PassingLaws.{read-built}
use Rattle.scheduler.proofs.NextLaws.{none_runs, next-is}
use Rattle.scheduler.proofs.ServingSteps.{begun, stops-used, stops-idle, stops_23, stops_24, asked-place, ready, goes_on}
use Rattle.rules.proofs.ServingLaws.{next-runs}
use native.Mathlib.Omega.{arith}
use mathlib.Core.Path.{◌≡◌, sym, ◌∙◌}
use Rattle.scheduler.proofs.serve_asked.Goals as goal

pub has_leave-leaving-requires : goal.has_leave-leaving-requires
has_leave-leaving-requires c = read-built c.requires.team.read

pub loop-made-init : goal.loop-made-init
loop-made-init c = begun _ c.requires

pub returns-in_default : goal.returns-in_default
returns-in_default c =
    rw c.stopped.ensures
    (stops-idle c.loop-made.invariant c.loop-made-test.true (none_runs _ _ (sym c.next_process.ensures ∙ c.in_default.is)))

pub returns-then-unfit-count : goal.returns-then-unfit-count
returns-then-unfit-count c =
    let (some, is) = next-is _ _ _ (sym c.next_process.ensures ∙ c.in-Some.is) in
    rw (c.stopped-then-unfit-count.ensures, c.refused.ensures)
    (stops_23 c.loop-made.invariant c.loop-made-test.true some c.if-unfit-count.true)

pub place_lacked-requires : goal.place_lacked-requires
place_lacked-requires c =
    let (some, is) = next-is _ _ _ (sym c.next_process.ensures ∙ c.in-Some.is) in
    rw is (asked-place c.loop-made.invariant c.loop-made-test.true some c.if-unfit-count.false)

pub returns-then-place_lacked : goal.returns-then-place_lacked
returns-then-place_lacked c =
    let (some, is) = next-is _ _ _ (sym c.next_process.ensures ∙ c.in-Some.is) in
    rw (c.stopped-then-place_lacked.ensures, c.refused-then-place_lacked.ensures, is)
    (stops_24 c.loop-made.invariant c.loop-made-test.true some c.if-unfit-count.false
    (rw is at (sym c.place_lacked.ensures ∙ c.if-place_lacked.true)))

pub make_turn-unfit-requires : goal.make_turn-unfit-requires
make_turn-unfit-requires c =
    let (some, is) = next-is _ _ _ (sym c.next_process.ensures ∙ c.in-Some.is) in
    rw is (
      ready c.loop-made.invariant c.loop-made-test.true some c.if-unfit-count.false
          (rw is at (sym c.place_lacked.ensures ∙ c.if-place_lacked.false)),
      next-runs _ _ some,
      c.has_leave-leaving.ensures,
    )

pub loop-made-preserved : goal.loop-made-preserved
loop-made-preserved c =
    let (some, is) = next-is _ _ _ (sym c.next_process.ensures ∙ c.in-Some.is) in
    rw is
    (goes_on c.loop-made.invariant c.loop-made-test.true some c.if-unfit-count.false
    (rw is at (sym c.place_lacked.ensures ∙ c.if-place_lacked.false))
    (rw is at c.make_turn-unfit.ensures))

pub returns : goal.returns
returns c =
    let end : c.loop-made.made ≡ c.args.turns = omega arith in
    rw c.stopped-2.ensures (stops-used c.loop-made.invariant end)
