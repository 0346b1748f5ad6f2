-- `scheduler::next_process` meets its contract. The processes passed over do not run.
use Rattle.scheduler.proofs.NextLaws.{passes}
use Rattle.rules.proofs.ChoiceLaws.{Passed}
use Prim.Native.Nat.{ℕ, ◌+◌, ◌%◌}
use mathlib.Core.List.{List}
use mathlib.Core.Path.{◌≡◌}
use Rattle.scheduler.proofs.next_process.Given as goal

pub record Passing (roll : List ℕ) (count last p passed : ℕ) : Type 0 where
  pub at : p ≡ (last + passed) % count
  pub idle : Passed (passes roll count last) passed

abbrev pub invariant-loop-passed : goal.invariant-loop-passed
invariant-loop-passed l = Passing l.roll l.count l.last l.p l._passed
