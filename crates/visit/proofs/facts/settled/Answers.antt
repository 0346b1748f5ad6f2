-- `facts::settled` meets its contract: the guard's bit is read before the mark is made in the lent plane of facts.
use mathlib.Core.Path.{◌≡◌}
use Prim.Native.Nat.{◌%◌}
use native.Mathlib.Omega.{arith}
use Rattle.visit.proofs.PlaneLaws.{facts-lent}
use Rattle.visit.proofs.SettledLaws.{settled-marked}
use Rattle.visit.proofs.facts.settled.Goals as goal

pub returns : goal.returns
returns c =
    let given = c.requires in
    let own : c.args.visit.node % 256 ≡ c.args.visit.node =
    omega (arith, given.inside.0, c.args.table.now.sized.nodes-read, c.args.table.now.sized.nodes-high) in
    settled-marked _ _ _ _ _ _ _ _ given.inside.1 c.if-not-used.false-raw
    c.fact_from.ensures c.if-not-fact_from.false-raw c.mark.new.marks _
    (rw (facts-lent _ given.inside.1, own) at c.mark.ensures)
    (rw c.fact-local.ensures at c.ruled.ensures)
