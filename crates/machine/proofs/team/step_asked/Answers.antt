-- `machine::team::step_asked` meets its contract.
use Rattle.machine.proofs.VerdictSteps.{asked-formed, asked_of, ready_of, denied-place, taken_step}
use Rattle.rules.specs.Step.{processes_in}
use Rattle.table.proofs.PassingLaws.{read-shaped}
use native.Mathlib.Omega.{arith}
use mathlib.Core.Path.{sym, ◌∙◌}
use Rattle.machine.proofs.team.step_asked.Goals as goal

pub overflow_cast-count : goal.overflow_cast-count
unfolding processes_in
overflow_cast-count c =
    let all = asked_of _ _ _ _ c.requires in
    omega (arith, all.team.few)

pub of-requires : goal.of-requires
of-requires c = read-shaped (record { passed = asked-formed _ _ _ _ c.requires })

pub place_lacked-requires : goal.place_lacked-requires
unfolding processes_in
place_lacked-requires c =
    let all = asked_of _ _ _ _ c.requires in
    rw c.of.ensures (all.team, all.within, all.fits _ all.within)

pub returns-then-place_lacked : goal.returns-then-place_lacked
unfolding processes_in
returns-then-place_lacked c =
    denied-place _ _ _ _ c.requires (sym (rw c.of.ensures at c.place_lacked.ensures) ∙ c.if-place_lacked.true)

pub take_turn-requires : goal.take_turn-requires
unfolding processes_in
take_turn-requires c =
    let all = asked_of _ _ _ _ c.requires in
    rw c.of.ensures (ready_of all (sym (rw c.of.ensures at c.place_lacked.ensures) ∙ c.if-place_lacked.false))

pub returns : goal.returns
unfolding processes_in
returns c =
    rw (taken_step _ _ _ _ c.requires (sym (rw c.of.ensures at c.place_lacked.ensures) ∙ c.if-place_lacked.false))
    (rw c.of.ensures at c.take_turn.ensures)
