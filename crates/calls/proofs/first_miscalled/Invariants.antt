-- `first_miscalled` meets its contract. The loop's invariant: the lowest call that fails for the procedures passed.
use Rattle.calls.proofs.CallLaws.{calls_of}
use Rattle.rules.specs.Table.{decode, nodes}
use Rattle.rules.specs.Choice.{first_failing}
use lib.ListN.{replicate}
use mathlib.Core.Path.{◌≡◌}
use Rattle.calls.proofs.first_miscalled.Given as goal

abbrev pub invariant-loop-p : goal.invariant-loop-p
invariant-loop-p l = (l.marks ≡ replicate 8 0) × (l.lowest ≡ first_failing (calls_of (decode l.table.bytes.now) l.p) (nodes (decode l.table.bytes.now)))
