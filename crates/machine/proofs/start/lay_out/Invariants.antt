-- `machine::start::lay_out` meets its contract. The words passed are laid out.
use Rattle.machine.specs.Layout.{laid_word}
use Rattle.rules.specs.Process.{process_words}
use lib.ListN.{length, get_or}
use Prim.Native.Nat.{ℕ, ◌<◌}
use mathlib.Core.Path.{◌≡◌}
use Rattle.machine.proofs.start.lay_out.Given as goal

abbrev pub invariant-loop-i : goal.invariant-loop-i
invariant-loop-i l =
    (length l.words ≡ process_words) × ((k : ℕ) → k < l.i → get_or l.words k 0 ≡ laid_word l.variables l.entry l.given k)
