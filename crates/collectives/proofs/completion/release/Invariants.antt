-- `collectives::completion::release` meets its contract.
-- The loop's roll has the records of the processes passed released; the others still wait.
use Rattle.rules.specs.Process.{process_at, depth}
use Rattle.rules.specs.Arrivals.{each_arrival, ended_record, running_record}
use Rattle.rules.specs.declared.Arrival.{Arrival}
use lib.Dec.{eqb}
use Prim.Native.Nat.{ℕ}
use mathlib.Core.Path.{◌≡◌}
use mathlib.Core.List.{List}
use mathlib.Core.Bool.{cond}
use Rattle.collectives.proofs.completion.release.Given as goal

abbrev pub released : List ℕ → ℕ → Arrival
released state q = cond (eqb (depth (process_at state q)) 0) ended_record running_record

abbrev pub invariant-loop-p : goal.invariant-loop-p
invariant-loop-p l = l.roll ≡ each_arrival (released l.state) l.p l.initial.roll
