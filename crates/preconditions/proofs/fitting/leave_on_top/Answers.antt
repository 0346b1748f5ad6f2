-- `preconditions::fitting::leave_on_top` meets its contract.
use Rattle.table.proofs.PassingLaws.{read-formed}
use Rattle.process.proofs.StatementLaws.{statement-below}
use Rattle.rules.proofs.KindLaws.{leave_of, no-leave}
use Rattle.rules.specs.declared.Node.{Node}
use Rattle.rules.specs.Table.{decode, node_at, statement_at, statement_of, is_leave}
use borrow.Author.Tests.{eq-eqb, ne_eqb}
use lib.Dec.{eqb}
use native.Mathlib.Decide.{ℕ_discrete}
use mathlib.Core.Path.{◌≡◌, ◌∙◌, ap}
use Rattle.preconditions.proofs.fitting.leave_on_top.Goals as goal

is-leave : (m : Node) → eqb m.kind 26 ≡ is_leave (statement_of m)
is-leave m =
    elim (ℕ_discrete m.kind 26) [
      | yes e ↦ rw (eq-eqb m.kind 26 e, leave_of m e)
      | no n ↦ rw (ne_eqb m.kind 26 n, no-leave m n)
    ]

pub kind_at-requires : goal.kind_at-requires
kind_at-requires c =
    let given = c.requires in
    rw (c.top-n.ensures, c.args.table.now.sized.nodes-read) (statement-below _ (read-formed given.0) _ given.2)

pub returns : goal.returns
unfolding statement_at
returns c =
    let table = c.args.table.now.bytes.now in
    let same = c.kind_at.ensures ∙ ap (λ n. (node_at (decode table) n).kind) c.top-n.ensures in
    ap (λ k. eqb k 26) same ∙ is-leave (node_at (decode table) _)
