-- `again::stretch_end` meets its contract. The loop's invariant: no node so far is marked.
use mathlib.Core.Bool.{false}
use mathlib.Core.Path.{◌≡◌}
use Prim.Native.Nat.{ℕ, ◌≤◌, ◌<◌}
use Rattle.table.specs.Marks.{bit_at}
use Rattle.switches.specs.Aside.{aside_plane}
use Rattle.switches.proofs.again.stretch_end.Given as goal

abbrev pub invariant-loop-end : goal.invariant-loop-end
invariant-loop-end l = (k : ℕ) → l.n ≤ k → k < l.end → bit_at (aside_plane l.planes) k ≡ false
