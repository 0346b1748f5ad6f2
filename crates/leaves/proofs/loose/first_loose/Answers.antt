-- `loose::first_loose` meets its contract.
use mathlib.Core.Path.{sym, ◌∙◌}
use Rattle.table.proofs.PassingLaws.{built-formed}
use Rattle.leaves.proofs.LooseLaws.{none_loose}
use Rattle.leaves.proofs.loose.first_loose.Goals as goal

pub returns-then-bodies_closed : goal.returns-then-bodies_closed
returns-then-bodies_closed c =
    let given = c.requires in
    c.args.table.now.sized.nodes-read
    ∙ none_loose _ _ (built-formed given.passing.0) given.held_to (sym c.bodies_closed.ensures ∙ c.if-bodies_closed.true)
