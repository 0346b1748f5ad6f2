-- `pass_node` meets its contract: each kind by its law.
use mathlib.Core.Path.{refl, sym, ◌∙◌}
use Rattle.table.proofs.PassingLaws.{built-formed}
use Rattle.leaves.proofs.PassLaws.{pass_other, pass_leave, pass_loop, pass_sequence, pass_branch}
use Rattle.leaves.proofs.pass_node.Goals as goal

pub returns-in-18 : goal.returns-in-18
returns-in-18 c =
    let given = c.requires in
    let join = c.join.ensures in
    let node = c.node_at-node.ensures in
    let kind = sym c.kind_at.ensures ∙ c.in-18.is in
    pass_sequence _ (built-formed given.0) _ given.1 _ _ join.size join.facts node kind join

pub returns-in-19 : goal.returns-in-19
returns-in-19 c =
    let given = c.requires in
    let join = c.join-in-19.ensures in
    pass_branch _ (built-formed given.0) _ given.1 _ _ join.size join.facts c.node_at-node-in-19.ensures
    (sym c.kind_at.ensures ∙ c.in-19.is) _ c.fact-local.ensures join

pub returns-in-20 : goal.returns-in-20
returns-in-20 c =
    let given = c.requires in
    pass_loop _ (built-formed given.0) _ given.1 _ _ given.2 refl c.node_at-node-in-20.ensures
    (sym c.kind_at.ensures ∙ c.in-20.is) refl _ c.left_by_leave.ensures

pub returns-in-26 : goal.returns-in-26
returns-in-26 c =
    let given = c.requires in
    let noted = c.note_leave.ensures in
    pass_leave _ (built-formed given.0) _ given.1 _ _ noted.kept.size noted.kept.facts
    (sym c.kind_at.ensures ∙ c.in-26.is) (noted.planes_after refl) noted.kept.marks

pub returns-in_default : goal.returns-in_default
returns-in_default c =
    let given = c.requires in
    let ((((all, no18), no19), no20), no26) = rw c.kind_at.ensures at c.in_default.in_default-own.rest in
    pass_other _ (built-formed given.0) _ given.1 _ _ given.2 refl refl no18 no19 no20 no26
