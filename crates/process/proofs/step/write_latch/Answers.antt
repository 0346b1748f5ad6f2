-- `process::step::write_latch` meets its contract.
use borrow.Author.Tests.{lt-ltb, le-ltb}
use Rattle.process.proofs.step.write_latch.Goals as goal

pub returns-then-place-lt-LATCH_PLACES : goal.returns-then-place-lt-LATCH_PLACES
returns-then-place-lt-LATCH_PLACES c = simp (lt-ltb _ _ c.if-place-lt-LATCH_PLACES.true)

pub returns-else-place-lt-LATCH_PLACES : goal.returns-else-place-lt-LATCH_PLACES
returns-else-place-lt-LATCH_PLACES c = simp (le-ltb _ _ c.if-place-lt-LATCH_PLACES.false)
