-- `pass_leaves` meets its contract: nothing is noted, or both planes are cleared first.
use mathlib.Core.Path.{sym, ◌∙◌}
use Rattle.table.proofs.PassingLaws.{built-formed}
use Rattle.leaves.proofs.PassLaws.{none-noted, passed_none, passed-all, passed-cleared}
use Rattle.visit.proofs.FactLaws.{whole}
use Rattle.rules.specs.Table.{decode}
use Rattle.leaves.proofs.pass_leaves.Goals as goal

pub returns-then-none_marked : goal.returns-then-none_marked
returns-then-none_marked c =
    let given = c.requires in
    let size = given.passing.2 in
    none-noted _ (built-formed given.passing.0) _ given.passing.1 _ size given.noted_to
    (sym c.none_marked.ensures ∙ c.if-none_marked.true)

pub returns : goal.returns
returns c =
    let given = c.requires in
    let clear = c.clear_leaves.ensures in
    passed-cleared c.args.planes.now clear
    (passed-all _ _ _ _
    (c.pass_nodes.ensures.passed (whole (decode c.args.table.now.bytes.now) _ _) _ _
    (passed_none _ _ _ _ given.passing.1 clear.size clear.left clear.held))
    (c.args.table.now.sized.nodes-read))
