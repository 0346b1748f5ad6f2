-- `take_top` meets its contract. The loop's invariant: the words from k on hold no node.
use Rattle.calls.specs.Walk.{ClearFrom}
use mathlib.Core.Path.{◌≡◌}
use Rattle.calls.proofs.take_top.Given as goal

abbrev pub invariant-loop-k : goal.invariant-loop-k
invariant-loop-k l = (l.marks ≡ l.initial.marks) × ClearFrom l.marks l.k
