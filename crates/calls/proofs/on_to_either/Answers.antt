-- `on_to_either` meets its contract.
use mathlib.Core.Path.{sym, ◌∙◌, ap}
use native.Mathlib.Omega.{arith}
use lib.ListN.{length}
use Rattle.table.proofs.UseLaws.{length-with_bits}
use Rattle.calls.proofs.VisitLaws.{one-waits, second-waits, first-waits, none-waits}
use Rattle.calls.proofs.WalkLaws.{waited-clear}
use Rattle.calls.proofs.on_to_either.Goals as goal

pub go_on-requires : goal.go_on-requires
go_on-requires c =
    let given = c.requires in
    let waited = c.wait.ensures in (
      ap length waited ∙ length-with_bits _ _ ∙ given.4,
      omega (arith, given.1, c.args.table.now.sized.nodes-read, c.args.table.now.sized.nodes-high),
      given.3,
      rw waited (waited-clear _ _ _ _ (omega (arith, given.2)) given.5),
    )

pub returns-then-may_call : goal.returns-then-may_call
returns-then-may_call c =
    rw (second-waits _ _ _ _ (sym c.may_call.ensures ∙ c.if-may_call.true))
    (rw c.wait.ensures at c.go_on.ensures)

pub returns-then-may_call-2 : goal.returns-then-may_call-2
returns-then-may_call-2 c =
    let second = sym c.may_call-2.ensures ∙ c.if-may_call-2.true in
    let first = sym c.may_call.ensures ∙ c.if-may_call.false in
    rw (first-waits _ _ _ _ first, one-waits _ _ _ second) c.go_on-then-may_call-2.ensures

pub returns : goal.returns
returns c =
    let second = sym c.may_call-2.ensures ∙ c.if-may_call-2.false in
    let first = sym c.may_call.ensures ∙ c.if-may_call.false in
    rw (first-waits _ _ _ _ first, none-waits _ _ _ second) c.highest.ensures
