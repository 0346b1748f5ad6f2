-- `aside::set_branch` meets its contract: an if whose condition is fixed has one branch that will never be taken.
use mathlib.Core.List.{[], ◌∷◌}
use mathlib.Core.Path.{sym, ◌∙◌, ap}
use Prim.Native.Nat.{ℕ}
use native.Mathlib.Omega.{arith}
use lib.Dec.{eqb}
use Rattle.values.specs.Fixed.{fixed_as}
use Rattle.table.proofs.PassingLaws.{read-formed}
use Rattle.rules.specs.declared.Node.{Node}
use Rattle.table.specs.Marks.{with_bits}
use Rattle.switches.proofs.PartsLaws.{branch-few, branch-test, branch-never, chosen-few, other-never}
use Rattle.switches.proofs.aside.set_branch.Goals as goal

pub returns-then-node-ne-BRANCH : goal.returns-then-node-ne-BRANCH
unfolding with_bits
returns-then-node-ne-BRANCH c =
    let kind = ap (λ (m : Node). m.kind) c.node_at-node.ensures in
    ap (with_bits c.args.aside.now) (sym (other-never _ _ (λ e. c.if-node-ne-BRANCH.true (kind ∙ e))))

pub fixing-requires : goal.fixing-requires
fixing-requires c =
    let (here, low, size) = c.requires in
    (here, branch-test _ (read-formed here) _ low _ c.node_at-node.ensures c.if-node-ne-BRANCH.false)

pub returns-in_default : goal.returns-in_default
unfolding with_bits
returns-in_default c =
    let (here, low, size) = c.requires in
    ap (with_bits c.args.aside.now)
    (sym
    (branch-never _ (read-formed here) _ low _ c.node_at-node.ensures c.if-node-ne-BRANCH.false
    (sym (ap fixed_as c.in_default.is) ∙ c.fixing.ensures)))

pub mark-requires : goal.mark-requires
mark-requires c =
    let (here, low, size) = c.requires in
    let (x, y) = branch-few _ (read-formed here) _ low _ c.node_at-node.ensures c.if-node-ne-BRANCH.false in
    omega (arith, size, chosen-few (eqb c.in-Some.value 0) x y c.not_taken.ensures)

pub returns : goal.returns
unfolding with_bits
returns c =
    let (here, low, size) = c.requires in
    let aside = c.args.aside.now in
    c.mark.ensures
    ∙ ap (λ (k : ℕ). with_bits aside (k ∷ [])) c.not_taken.ensures
    ∙ ap (with_bits aside)
    (sym
    (branch-never _ (read-formed here) _ low _ c.node_at-node.ensures c.if-node-ne-BRANCH.false
    (sym (ap fixed_as c.in-Some.is) ∙ c.fixing.ensures)))
