-- `preconditions::needs_place` meets its contract.
use Rattle.preconditions.proofs.QuestionLaws.{needs_other}
use Rattle.rules.proofs.KindLaws.{sequence_of, loop_of}
use Rattle.process.proofs.StatementLaws.{top-statement, top-test}
use Rattle.rules.specs.Table.{statement_at}
use Rattle.rules.specs.Process.{needs_place}
use mathlib.Core.Path.{sym}
use native.Mathlib.Omega.{arith}
use Rattle.preconditions.proofs.needs_place.Goals as goal

pub returns-in-18 : goal.returns-in-18
unfolding needs_place
returns-in-18 c = rw (top-statement c.requires (sequence_of _ c.in-18.is))

pub evaluate-requires : goal.evaluate-requires
evaluate-requires c =
    let topped = c.requires in
    record { given = topped.given; part = top-test topped c.in-20.is }

pub returns-in-20 : goal.returns-in-20
unfolding needs_place
returns-in-20 c =
    let given = c.requires in
    rw (top-statement given (loop_of _ c.in-20.is), c.evaluate.ensures)

pub returns-in_default : goal.returns-in_default
unfolding statement_at
returns-in_default c =
    let given = c.requires in
    rw (← given.here) (sym (needs_other _ _ _ (λ e. omega arith) (λ e. omega arith)))
