-- `wait` meets its contract.
use mathlib.Core.Path.{sym, ◌∙◌}
use Rattle.calls.proofs.VisitLaws.{one-waits, none-waits}
use Rattle.calls.proofs.wait.Goals as goal

pub returns-then-may_call : goal.returns-then-may_call
returns-then-may_call c = c.mark.ensures ∙ sym (one-waits _ _ _ (sym c.may_call.ensures ∙ c.if-may_call.true))

pub returns-else-may_call : goal.returns-else-may_call
returns-else-may_call c = sym (none-waits _ _ _ (sym c.may_call.ensures ∙ c.if-may_call.false))
