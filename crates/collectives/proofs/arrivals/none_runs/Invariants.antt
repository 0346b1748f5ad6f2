-- `collectives::arrivals::none_runs` meets its contract. The loop has passed only processes that do not run.
use Rattle.collectives.proofs.DownLaws.{PassedFrom}
use Rattle.rules.specs.Arrivals.{running, status_at}
use lib.Dec.{eqb}
use Prim.Native.Nat.{ℕ}
use mathlib.Core.List.{List}
use mathlib.Core.Bool.{Bool, not}
use Rattle.collectives.proofs.arrivals.none_runs.Given as goal

abbrev pub stopped : List ℕ → ℕ → Bool
stopped roll p = not (eqb (status_at roll p) running)

abbrev pub invariant-loop-p : goal.invariant-loop-p
invariant-loop-p l = PassedFrom (stopped l.roll) l.p l.count
