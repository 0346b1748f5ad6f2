-- `machine::start::start_roll` meets its contract. The records passed are running.
use Rattle.rules.proofs.ArrivalLaws.{each_arrival-length}
use Rattle.rules.specs.Start.{start_roll}
use Rattle.rules.specs.Arrivals.{each_arrival, running_record}
use lib.ListN.{length}
use native.Mathlib.Numerals.{add-one}
use native.Mathlib.Omega.{arith}
use Prim.Native.Nat.{suc, ◌+◌}
use mathlib.Core.Path.{◌≡◌, refl, ◌∙◌, ap}
use Rattle.machine.proofs.start.start_roll.Goals as goal

pub loop-p-init : goal.loop-p-init
unfolding each_arrival
loop-p-init c = refl

pub write-requires : goal.write-requires
write-requires c =
    let loop = c.loop-p in
    let sized =
    ap length loop.invariant
    ∙ each_arrival-length (λ q. running_record) loop.p c.args.roll.now in
    omega arith

pub loop-p-preserved : goal.loop-p-preserved
unfolding each_arrival
loop-p-preserved c =
    let loop = c.loop-p in
    let next : loop.p + 1 ≡ suc loop.p = add-one _ in
    rw (next, ← loop.invariant) c.write.ensures

pub shape_of-roll : goal.shape_of-roll
shape_of-roll c = ap length c.loop-p.invariant ∙ each_arrival-length (λ q. running_record) _ _

pub returns : goal.returns
unfolding start_roll
returns c =
    let end : c.loop-p.p ≡ c.args.count = omega arith in
    rw (← end) c.loop-p.invariant
