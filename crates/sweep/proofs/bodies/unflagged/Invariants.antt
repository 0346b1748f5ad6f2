-- `bodies::unflagged` meets its contract: the least refusal so far is that of the nodes and of the procedures asked.
use mathlib.Core.Path.{◌≡◌}
use Prim.Native.Nat.{min}
use Rattle.rules.specs.Table.{decode}
use Rattle.visit.specs.Fields.{facts_plane}
use Rattle.visit.specs.Least.{least_below}
use Rattle.sweep.specs.Asked.{effect_code}
use Rattle.sweep.proofs.bodies.unflagged.Given as goal

abbrev pub invariant-loop-p : goal.invariant-loop-p
invariant-loop-p l = l.best ≡ min l.rule (least_below (effect_code (decode l.table.bytes.now) (facts_plane l.planes)) l.p)
