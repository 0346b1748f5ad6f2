-- `collectives::completion::gather` meets its contract. The loop's words are those gathered from the processes passed.
use Rattle.rules.proofs.StackLaws.{gathered-length}
use Rattle.rules.specs.Collective.{gathered_from}
use lib.ListN.{length}
use native.Mathlib.Numerals.{add-one}
use native.Mathlib.Omega.{arith}
use Prim.Native.Nat.{◌+◌, suc}
use mathlib.Core.Path.{◌≡◌, refl, ◌∙◌, ap}
use Rattle.collectives.proofs.completion.gather.Goals as goal

pub loop-i-init : goal.loop-i-init
unfolding gathered_from
loop-i-init c = refl

pub slot_at-at-requires : goal.slot_at-at-requires
slot_at-at-requires c = (omega arith, omega arith)

pub bounds-words-at : goal.bounds-words-at
bounds-words-at c =
    let loop = c.loop-i in
    let args = c.args in
    omega (arith, ap length loop.invariant, gathered-length args.roll.now args.area loop.i args.words.now)

pub loop-i-preserved : goal.loop-i-preserved
unfolding gathered_from
loop-i-preserved c =
    let loop = c.loop-i in
    let next : loop.i + 1 ≡ suc loop.i = add-one _ in
    rw (next, ← loop.invariant, c.value_of.ensures, c.slot_at-at.ensures)

pub shape_of-words : goal.shape_of-words
shape_of-words c = ap length c.loop-i.invariant ∙ gathered-length _ _ _ _

pub returns : goal.returns
returns c =
    let end : c.loop-i.i ≡ c.args.count = omega arith in
    rw (← end) c.loop-i.invariant
