-- `process::stack::unwind` meets its contract. The words of each turn are on the way that the laws tell of.
use Rattle.process.proofs.UnwindLaws.{Unwinding}
use Rattle.rules.specs.Process.{depth}
use Rattle.process.proofs.stack.unwind.Given as goal

abbrev pub invariant-loop-words : goal.invariant-loop-words
invariant-loop-words l = Unwinding l.w l.initial.words l.words

abbrev pub decreases-loop-words : goal.decreases-loop-words
decreases-loop-words l = depth l.words
