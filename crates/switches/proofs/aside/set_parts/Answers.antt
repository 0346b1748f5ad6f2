-- `aside::set_parts` meets its contract: each kind by its parts.
use mathlib.Core.Path.{sym, ◌∙◌, ap}
use native.Mathlib.Omega.{arith}
use Rattle.table.proofs.PassingLaws.{read-formed}
use Rattle.rules.specs.declared.Node.{Node}
use Rattle.table.specs.Marks.{with_bits}
use Rattle.switches.proofs.PartsLaws.{sequence-few, sequence-inner, branch-few, branch-inner, loop-few, loop-inner, other-inner}
use Rattle.switches.proofs.aside.set_parts.Goals as goal

pub set_both-requires : goal.set_both-requires
set_both-requires c =
    let (here, low, size) = c.requires in
    let (x, y) = sequence-few _ (read-formed here) _ low _ c.node_at-node.ensures c.in-18.is in
    (x, y, size)

pub set_both-requires-in-19 : goal.set_both-requires-in-19
set_both-requires-in-19 c =
    let (here, low, size) = c.requires in
    let few = branch-few _ (read-formed here) _ low _ c.node_at-node.ensures c.in-19.is in
    (omega (arith, few), omega (arith, few), size)

pub mark-requires : goal.mark-requires
mark-requires c =
    let (here, low, size) = c.requires in
    omega (arith, size, loop-few _ (read-formed here) _ low _ c.node_at-node.ensures c.in-20.is)

pub returns-in-18 : goal.returns-in-18
returns-in-18 c =
    let (here, low, size) = c.requires in
    c.set_both.ensures
    ∙ ap (with_bits c.args.aside.now)
    (sym (sequence-inner _ (read-formed here) _ low _ c.node_at-node.ensures c.in-18.is))

pub returns-in-19 : goal.returns-in-19
returns-in-19 c =
    let (here, low, size) = c.requires in
    c.set_both-in-19.ensures
    ∙ ap (with_bits c.args.aside.now)
    (sym (branch-inner _ (read-formed here) _ low _ c.node_at-node.ensures c.in-19.is))

pub returns-in-20 : goal.returns-in-20
unfolding with_bits
returns-in-20 c =
    let (here, low, size) = c.requires in
    c.mark.ensures
    ∙ ap (with_bits c.args.aside.now)
    (sym (loop-inner _ (read-formed here) _ low _ c.node_at-node.ensures c.in-20.is))

pub returns-in_default : goal.returns-in_default
unfolding with_bits
returns-in_default c =
    let kind = ap (λ (m : Node). m.kind) c.node_at-node.ensures in
    let (((all, no18), no19), no20) = rw kind at c.in_default.in_default-own.rest in
    ap (with_bits c.args.aside.now) (sym (other-inner _ _ no18 no19 no20))
