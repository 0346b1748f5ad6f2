-- `scheduler::make_turn` meets its contract.
use Rattle.scheduler.proofs.TurnLaws.{as_taken, turned, unrefused, all_left}
use mathlib.Core.Path.{sym, ◌∙◌}
use Rattle.scheduler.proofs.make_turn.Goals as goal

pub returns-then-not-leaving : goal.returns-then-not-leaving
returns-then-not-leaving c =
    let given = c.requires in
    let done = as_taken given.0 given.1 c.run-stepped.ensures in
    record {
      left = done.left;
      written = done.written;
      unfit_is = all_left given.0 given.1 c.run-stepped.ensures (sym given.2 ∙ c.if-not-leaving.true);
    }

pub first_left-requires : goal.first_left-requires
first_left-requires c =
    let given = c.requires in
    turned given.0 given.1 c.run-stepped.ensures c.in-Ok.is

pub returns-in-Ok : goal.returns-in-Ok
returns-in-Ok c =
    let given = c.requires in
    let done = as_taken given.0 given.1 c.run-stepped.ensures in
    record { left = done.left; written = done.written; unfit_is = c.first_left.ensures }

pub returns-in-Err : goal.returns-in-Err
returns-in-Err c =
    let given = c.requires in
    absurd (unrefused given.0 given.1 c.run-stepped.ensures c.in-Err.is)
