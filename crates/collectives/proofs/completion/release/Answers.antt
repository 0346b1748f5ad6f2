-- `collectives::completion::release` meets its contract.
-- The loop's roll has the records of the processes passed released; the others still wait.
use Rattle.process.proofs.LentLaws.{depth_in}
use Rattle.rules.proofs.ArrivalLaws.{each_arrival-length, each_arrival-kept}
use Rattle.rules.specs.Collective.{released_roll}
use Rattle.rules.specs.Arrivals.{each_arrival, status_at}
use lib.ListN.{length}
use native.Mathlib.Numerals.{add-one}
use native.Mathlib.Omega.{arith}
use Prim.Native.Nat.{suc, ◌+◌}
use mathlib.Core.Path.{◌≡◌, refl, ◌∙◌, ap}
use Rattle.collectives.proofs.completion.release.Invariants.{released}
use Rattle.collectives.proofs.completion.release.Goals as goal

pub loop-p-init : goal.loop-p-init
unfolding each_arrival
loop-p-init c = refl

pub release_one-requires : goal.release_one-requires
release_one-requires c =
    let loop = c.loop-p in
    let args = c.args in
    let given = c.requires in
    let now = loop.invariant in
    let sized = ap length now ∙ each_arrival-length (released args.state.now) loop.p args.roll.now in
    let kept = each_arrival-kept (released args.state.now) loop.p args.roll.now loop.p (omega arith) in (
      omega arith,
      ap (λ l. status_at l loop.p) now ∙ kept.status ∙ given.by_index loop.p c.loop-p-test.true,
    )

pub loop-p-preserved : goal.loop-p-preserved
unfolding each_arrival
loop-p-preserved c =
    let loop = c.loop-p in
    let next : loop.p + 1 ≡ suc loop.p = add-one _ in
    let state = c.args.state.now in
    rw (next, depth_in state loop.p, ← loop.invariant) c.release_one.ensures

pub shape_of-roll : goal.shape_of-roll
shape_of-roll c = ap length c.loop-p.invariant ∙ each_arrival-length _ _ _

pub returns : goal.returns
unfolding released_roll
returns c =
    let end : c.loop-p.p ≡ c.args.count = omega arith in
    rw (← end) c.loop-p.invariant
