-- `collectives::arrivals::all_at_one_node` meets its contract. The loop has passed only processes that wait at process 0's node.
use Rattle.collectives.proofs.DownLaws.{PassedFrom}
use Rattle.rules.specs.Arrivals.{waiting, status_at, arrival_node}
use lib.Dec.{eqb}
use Prim.Native.Nat.{ℕ}
use mathlib.Core.List.{List}
use mathlib.Core.Bool.{Bool, ◌&&◌}
use Rattle.collectives.proofs.arrivals.all_at_one_node.Given as goal

abbrev pub waits_there : List ℕ → ℕ → Bool
waits_there roll p = eqb (status_at roll p) waiting && eqb (arrival_node roll p) (arrival_node roll 0)

abbrev pub invariant-loop-p : goal.invariant-loop-p
invariant-loop-p l = PassedFrom (waits_there l.roll) l.p l.count
