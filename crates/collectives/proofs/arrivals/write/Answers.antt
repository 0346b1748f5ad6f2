-- `collectives::arrivals::write` meets its contract.
use Rattle.rules.specs.Arrivals.{with_arrival}
use native.Mathlib.Numerals.{towards_suc}
use native.Mathlib.Omega.{arith}
use lib.ListN.{length-set}
use Rattle.collectives.proofs.arrivals.write.Goals as goal

pub bounds-roll-at-2 : goal.bounds-roll-at-2
bounds-roll-at-2 c = simp length-set (omega arith)

pub bounds-roll-at-3 : goal.bounds-roll-at-3
bounds-roll-at-3 c = simp length-set (omega arith)

pub returns : goal.returns
unfolding with_arrival
returns c = simp (towards_suc, c.from.ensures)
