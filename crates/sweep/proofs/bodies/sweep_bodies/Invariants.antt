-- `bodies::sweep_bodies` meets its contract: each body keeps what the sweep says so far, and raises no refusal.
use mathlib.Core.Path.{◌≡◌}
use Prim.Native.Nat.{◌≤◌}
use lib.ListN.{length}
use Rattle.sweep.proofs.EndLaws.{Entered}
use Rattle.sweep.proofs.bodies.sweep_bodies.Given as goal

abbrev pub invariant-loop-p : goal.invariant-loop-p
invariant-loop-p l = (length l.marks ≡ 8) × Entered l.table.bytes.now l.p l.best l.marks × (l.best ≤ l.first)
