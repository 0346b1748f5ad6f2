-- `aside::set_node` meets its contract.
use mathlib.Core.Path.{sym, ◌∙◌}
use native.Mathlib.Omega.{arith}
use Rattle.table.proofs.PassingLaws.{read-formed}
use Rattle.switches.specs.Aside.{aside_marks}
use Rattle.switches.proofs.PartsLaws.{plain-marks}
use Rattle.switches.proofs.aside.set_node.Goals as goal

pub returns-then-kind_at-lt-SEQUENCE : goal.returns-then-kind_at-lt-SEQUENCE
returns-then-kind_at-lt-SEQUENCE c = sym (plain-marks _ _ _ (omega (arith, c.kind_at.ensures, c.if-kind_at-lt-SEQUENCE.true)))

pub marked-requires : goal.marked-requires
marked-requires c =
    let (read, low, size) = c.requires in
    omega (arith, low, size, (read-formed read).nodes-high)

pub returns-then-marked : goal.returns-then-marked
unfolding aside_marks
returns-then-marked c = simp (sym c.marked.ensures ∙ c.if-marked.true) c.set_parts.ensures

pub returns-else-marked : goal.returns-else-marked
unfolding aside_marks
returns-else-marked c = simp (sym c.marked.ensures ∙ c.if-marked.false) c.set_branch.ensures
