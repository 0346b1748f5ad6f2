-- `loose::enclosed` meets its contract.
use mathlib.Core.Path.{sym, ◌∙◌}
use Rattle.leaves.proofs.LooseLaws.{enclosed-other, enclosed-leave}
use Rattle.leaves.proofs.loose.enclosed.Goals as goal
use borrow.Author.Tests.{ne_eqb}

pub returns-then-kind_at-ne-LEAVE : goal.returns-then-kind_at-ne-LEAVE
returns-then-kind_at-ne-LEAVE c =
    simp (ne_eqb _ _ c.if-kind_at-ne-LEAVE.true) (enclosed-other _ _ (rw c.kind_at.ensures at c.if-kind_at-ne-LEAVE.true))

pub returns-else-kind_at-ne-LEAVE : goal.returns-else-kind_at-ne-LEAVE
returns-else-kind_at-ne-LEAVE c =
    let kind = sym c.kind_at.ensures ∙ c.if-kind_at-ne-LEAVE.false in
    rw (c.nearest_loop.ensures, c.args.table.now.sized.nodes-read) (enclosed-leave _ _ kind)
