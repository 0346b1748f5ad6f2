-- `process::step::advance` meets its contract.
-- Each arm's function asks what a well-formed table says of the parts of that kind.
use Rattle.std.proofs.Common.{arith}
use Rattle.rules.proofs.KindLaws.{assign_of, sequence_of, branch_of, loop_of, call_of, latch_of, leave_of}
use Rattle.process.proofs.StatementLaws.{top-statement, turn-assign, turn-sequence, turn-branch, turn-loop}
use Rattle.process.proofs.StatementLaws.{turn_repeat, turn-call, turn_body, turn-latch, turn-leave}
use Rattle.process.proofs.AloneLaws.{no-work}
use Rattle.rules.specs.Process.{advanced}
use Rattle.process.proofs.step.advance.Goals as goal

pub assign-requires : goal.assign-requires
assign-requires c = turn-assign c.requires c.in-17.is

pub sequence-requires : goal.sequence-requires
sequence-requires c = turn-sequence c.requires c.in-18.is

pub branch-table-requires : goal.branch-table-requires
branch-table-requires c = turn-branch c.requires c.in-19.is

pub repeat-requires : goal.repeat-requires
repeat-requires c =
    let given = c.requires in
    record { given = turn-loop given c.in-20.is; words_bound = turn_repeat given c.in-20.is }

pub call-requires : goal.call-requires
call-requires c =
    let given = c.requires in
    record { stacked = turn-call given c.in-21.is; p_bound = turn_body given c.in-21.is }

pub latch-requires : goal.latch-requires
latch-requires c = turn-latch c.requires c.in-22.is

pub leave-requires : goal.leave-requires
leave-requires c = turn-leave c.requires

pub returns-in-17 : goal.returns-in-17
unfolding advanced
returns-in-17 c =
    rw (top-statement c.requires.topped (assign_of _ c.in-17.is))
    c.assign.ensures

pub returns-in-18 : goal.returns-in-18
unfolding advanced
returns-in-18 c =
    rw (top-statement c.requires.topped (sequence_of _ c.in-18.is))
    c.sequence.ensures

pub returns-in-19 : goal.returns-in-19
unfolding advanced
returns-in-19 c =
    rw (top-statement c.requires.topped (branch_of _ c.in-19.is))
    c.branch-table.ensures

pub returns-in-20 : goal.returns-in-20
unfolding advanced
returns-in-20 c =
    rw (top-statement c.requires.topped (loop_of _ c.in-20.is))
    c.repeat.ensures

pub returns-in-21 : goal.returns-in-21
unfolding advanced
returns-in-21 c =
    rw (top-statement c.requires.topped (call_of _ c.in-21.is))
    c.call.ensures

pub returns-in-22 : goal.returns-in-22
unfolding advanced
returns-in-22 c =
    rw (top-statement c.requires.topped (latch_of _ c.in-22.is))
    c.latch.ensures

pub returns-in-26 : goal.returns-in-26
unfolding advanced
returns-in-26 c =
    rw (top-statement c.requires.topped (leave_of _ c.in-26.is))
    c.leave.ensures

pub returns-in_default : goal.returns-in_default
unfolding advanced
returns-in_default c =
    let given = c.requires in
    let is =
    no-work c.args.node given.alone (λ e. omega arith) (λ e. omega arith) (λ e. omega arith) (λ e. omega arith)
    (λ e. omega arith) (λ e. omega arith) (λ e. omega arith) in
    rw (top-statement given.topped is) c.pop.ensures
