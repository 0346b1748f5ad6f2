-- `machine::team::start_formed` meets its contract.
use Rattle.machine.proofs.VerdictSteps.{refused-asked, startable, started-rolled, taken_start}
use Rattle.std.proofs.lemmas.Result.{err_from_is_err_and}
use mathlib.Core.Path.{sym, ◌∙◌}
use Rattle.machine.proofs.team.start_formed.Goals as goal

pub returns-in_err-start_asked : goal.returns-in_err-start_asked
returns-in_err-start_asked c =
    let p = err_from_is_err_and c.from_residual.result c.from_residual.ensures.1 in
    rw (p.1, p.2) (refused-asked _ _ _ _ _ c.requires (sym c.start_asked.ensures ∙ c.in_err-start_asked.was))

pub start_state-requires : goal.start_state-requires
start_state-requires c =
    startable _ _ _ _ c.args.roll.now c.requires (sym c.start_asked.ensures ∙ c.in_ok-start_asked.was)

pub start_roll-requires : goal.start_roll-requires
start_roll-requires c =
    started-rolled c.args.table.now _ c.args.words.now c.args.state.now _ c.requires
    (sym c.start_asked.ensures ∙ c.in_ok-start_asked.was)

pub returns : goal.returns
returns c =
    taken_start _ _ _ _ _ c.requires (sym c.start_asked.ensures ∙ c.in_ok-start_asked.was)
    c.start_state.ensures c.start_roll.ensures
