-- `writing::write_nodes` meets its contract. The loop's invariant: the words passed are written.
use mathlib.Core.Path.{◌≡◌}
use Prim.Native.Nat.{◌*◌}
use lib.Seq.{sets}
use Rattle.linker.specs.Given.{node_behind, moved_node}
use Rattle.rules.specs.Encoding.{word_bytes}
use Rattle.rules.specs.WellFormed.{joined}
use Rattle.linker.proofs.writing.write_nodes.Given as goal

abbrev pub invariant-loop-k : goal.invariant-loop-k
invariant-loop-k l =
    l.out ≡ sets l.initial.out (4 * l.first) (joined (λ i. word_bytes (moved_node l.both (node_behind l.both i))) l.k)
