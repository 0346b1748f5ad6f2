-- `collectives::completion::complete` meets its contract.
-- The loop's state has the collective completed for the processes passed; the others' words are as they were.
use Rattle.collectives.specs.Given.{collective_of}
use Rattle.rules.proofs.CollectiveLaws.{taken}
use Rattle.rules.specs.Process.{each_process}
use mathlib.Core.Path.{◌≡◌}
use Rattle.collectives.proofs.completion.complete.Given as goal

abbrev pub invariant-loop-p : goal.invariant-loop-p
invariant-loop-p l =
    (l.state ≡ each_process (taken l.roll l.count (collective_of l.node)) l.p l.initial.state)
