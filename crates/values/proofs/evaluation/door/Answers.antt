-- `values::evaluation::door` meets its contract.
use Rattle.std.proofs.Common.{le-ltb, lt-ltb}
use Rattle.values.proofs.evaluation.door.Goals as goal

pub returns-then-place-lt-DOOR_PLACES : goal.returns-then-place-lt-DOOR_PLACES
returns-then-place-lt-DOOR_PLACES c = simp (lt-ltb _ _ c.if-place-lt-DOOR_PLACES.true)

pub returns-else-place-lt-DOOR_PLACES : goal.returns-else-place-lt-DOOR_PLACES
returns-else-place-lt-DOOR_PLACES c = simp (le-ltb _ _ c.if-place-lt-DOOR_PLACES.false)
