-- `collectives::completion::gather` meets its contract. The loop's words are those gathered from the processes passed.
use Rattle.rules.specs.Collective.{gathered_from}
use mathlib.Core.Path.{◌≡◌}
use Rattle.collectives.proofs.completion.gather.Given as goal

abbrev pub invariant-loop-i : goal.invariant-loop-i
invariant-loop-i l = l.words ≡ gathered_from l.roll l.area l.i l.initial.words
