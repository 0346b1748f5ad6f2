-- `preconditions::fitting::first_unfit` meets its contract. The loop has passed only processes that question 23 holds of.
use Rattle.rules.proofs.ChoiceLaws.{Passed}
use Rattle.rules.specs.Step.{process_fits}
use Rattle.rules.specs.Table.{decode}
use Rattle.preconditions.proofs.fitting.first_unfit.Given as goal

abbrev pub invariant-loop-p : goal.invariant-loop-p
invariant-loop-p l = Passed (process_fits (decode l.own.bytes.now) l.state l.roll) l.p
