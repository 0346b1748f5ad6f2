-- `scheduler::after` meets its contract.
use native.Mathlib.Nat.{mod_self, mod-eq_of_lt}
use native.Mathlib.Omega.{arith}
use mathlib.Core.Path.{sym}
use Rattle.scheduler.proofs.after.Goals as goal

pub returns-then-next-count : goal.returns-then-next-count
returns-then-next-count c = rw c.if-next-count.true (sym (mod_self c.args.count))

pub returns-else-next-count : goal.returns-else-next-count
returns-else-next-count c = sym (mod-eq_of_lt (omega (arith, c.requires, c.if-next-count.false)))
