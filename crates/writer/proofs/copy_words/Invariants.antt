-- `copy_words` meets its contract.
use mathlib.Core.Path.{◌≡◌}
use Prim.Native.Nat.{◌+◌, ◌*◌, ◌≤◌}
use lib.ListN.{length}
use lib.Seq.{sets}
use Rattle.rules.specs.Encoding.{word_bytes}
use Rattle.rules.specs.Table.{word_at}
use Rattle.rules.specs.WellFormed.{joined}
use Rattle.writer.proofs.copy_words.Given as goal

abbrev pub invariant-loop-k : goal.invariant-loop-k
invariant-loop-k l =
    (l.k ≤ l.count) × (length l.out ≡ length l.initial.out) × (l.out ≡ sets l.initial.out (4 * l.to) (joined (λ j. word_bytes (word_at l.table (l.from + j))) l.k))
