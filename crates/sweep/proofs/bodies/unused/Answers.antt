-- `bodies::unused` meets its contract: the first node that is not marked counts only where no earlier question fails.
use native.Mathlib.Omega.{arith}
use borrow.Author.Tests.{lt-ltb, le-ltb}
use Rattle.sweep.specs.Swept.{unused_best}
use Rattle.sweep.proofs.bodies.unused.Goals as goal

pub returns-then-best-lt-UNUSED : goal.returns-then-best-lt-UNUSED
unfolding unused_best
returns-then-best-lt-UNUSED c = simp (lt-ltb _ _ c.if-best-lt-UNUSED.true)

pub returns-then-count-place : goal.returns-then-count-place
unfolding unused_best
returns-then-count-place c =
    let late = le-ltb c.args.best _ c.if-best-lt-UNUSED.false in
    let all = le-ltb _ _ c.if-count-place.true in
    simp (late, ← c.first_unmarked-place.ensures, all) (omega (arith, c.requires.2))

pub returns : goal.returns
unfolding unused_best
returns c =
    let late = le-ltb c.args.best _ c.if-best-lt-UNUSED.false in
    let some = lt-ltb _ _ c.if-count-place.false in
    simp (late, ← c.first_unmarked-place.ensures, some) c.worse.ensures
