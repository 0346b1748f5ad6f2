-- `preconditions::fitting::stack_fits` meets its contract. The loop has passed only entries that are statements, two a turn.
use mathlib.Core.Bool.{Bool}
use mathlib.Core.List.{List}
use Prim.Native.Nat.{ℕ, ◌+◌, ◌*◌}
use lib.ListN.{get_or}
use Rattle.rules.specs.Process.{stack_at}
use Rattle.rules.specs.WellFormed.{is_statement}
use Rattle.rules.proofs.ChoiceLaws.{Passed}
use Rattle.rules.specs.Table.{decode}
use Rattle.preconditions.proofs.fitting.stack_fits.Given as goal

abbrev pub entry-fits : List ℕ → List ℕ → ℕ → Bool
entry-fits table words i = is_statement (decode table) (get_or words (stack_at + i) 0)

abbrev pub invariant-loop-i : goal.invariant-loop-i
invariant-loop-i l = Passed (entry-fits l.table.bytes.now l.words) (2 * l.i)
