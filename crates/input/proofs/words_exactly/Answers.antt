-- `input::words_exactly` meets its contract.
use borrow.Author.Tests.{eq-eqb, ne_eqb}
use Rattle.rules.specs.Input.{words_exactly}
use Rattle.input.proofs.words_exactly.Goals as goal

pub returns-then-length-eq0 : goal.returns-then-length-eq0
unfolding words_exactly
returns-then-length-eq0 c = rw (eq-eqb _ _ c.if-length-eq0.true)

pub returns-else-length-eq0 : goal.returns-else-length-eq0
unfolding words_exactly
returns-else-length-eq0 c = rw (ne_eqb _ _ c.if-length-eq0.false)
