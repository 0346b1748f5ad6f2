-- `nearest_loop` meets its contract. The loop's invariant: `inner` has the same nearest while as n, and no node passed names it.
use Rattle.loops.proofs.ClimbLaws.{Climbed}
use Rattle.rules.specs.Table.{decode}
use Rattle.loops.proofs.nearest_loop.Given as goal

abbrev pub invariant-loop-m : goal.invariant-loop-m
invariant-loop-m l = Climbed (decode l.table.bytes.now) l.n l.inner l.m
