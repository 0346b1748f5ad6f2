-- `go_on` meets its contract: nothing waits above the node, or it is marked and the highest is looked for.
use mathlib.Core.Path.{◌∙◌, ap}
use native.Mathlib.Omega.{arith}
use lib.ListN.{length}
use Rattle.table.proofs.BitLaws.{length-with_bit}
use Rattle.calls.proofs.TopLaws.{next-top}
use Rattle.calls.proofs.WalkLaws.{clear-bit}
use Rattle.calls.proofs.go_on.Goals as goal

pub highest-requires : goal.highest-requires
highest-requires c =
    let given = c.requires in
    let marked = c.mark.ensures in
    (ap length marked ∙ length-with_bit _ _ ∙ given.0, given.1, rw marked (clear-bit _ _ _ (omega (arith, given.2)) given.3))

pub returns-then-marks-a-eq0 : goal.returns-then-marks-a-eq0
returns-then-marks-a-eq0 c =
    let given = c.requires in
    next-top _ _ _ given.0 given.1 given.2 given.3 c.if-a-n.true c.if-marks-a-eq0.true
