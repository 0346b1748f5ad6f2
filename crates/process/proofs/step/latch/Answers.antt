-- `process::step::latch` meets its contract.
use Rattle.process.proofs.StackedLaws.{stacked-latch}
use Rattle.rules.specs.Process.{advanced}
use Rattle.process.proofs.step.latch.Goals as goal

pub pop-requires : goal.pop-requires
pop-requires c =
    let given = c.requires in
    rw c.write_latch.ensures
    (stacked-latch _ c.value_at-place.result c.value_at-value.result given.1)

pub returns : goal.returns
unfolding advanced
returns c =
    let write-latch = c.write_latch in
    let value-at2 = c.value_at-value in
    let value-at = c.value_at-place in
    rw (← value-at.ensures, ← value-at2.ensures, ← write-latch.ensures) c.pop.ensures
