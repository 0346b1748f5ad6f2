-- `machine::team::latches` meets its contract.
use Rattle.rules.specs.Process.{latch_places, latches_at, process_words}
use Rattle.rules.specs.Start.{latches_of}
use borrow.Author.Tests.{eq-eqb, ne_eqb, lt-ltb, le-ltb}
use native.Mathlib.Omega.{arith}
use Prim.Native.Nat.{◌+◌, ◌-◌, ◌*◌}
use mathlib.Core.Path.{◌≡◌}
use Rattle.machine.proofs.team.latches.Goals.{then-state-ne0-via-then-state-ne0, then-state-ne0-via-else-state-ne0+then-process-state}
use Rattle.machine.proofs.team.latches.Goals as goal

pub returns-then-state-ne0 : goal.returns-then-state-ne0
unfolding latches_of
returns-then-state-ne0 c =
    elim c.then-state-ne0.branch [
      | then-state-ne0-via-then-state-ne0 w ↦ rw (ne_eqb _ _ w.if-state-ne0.true)
      | then-state-ne0-via-else-state-ne0+then-process-state w ↦
          rw (eq-eqb _ _ w.if-state-ne0.false, le-ltb _ _ w.if-process-state.true)
    ]

pub returns : goal.returns
unfolding latches_of
returns c =
    let args = c.args in
    let from = process_words * args.process + latches_at in
    let size : from + latch_places - from ≡ latch_places = omega arith in
    rw (size, eq-eqb _ _ c.if-state-ne0.false, lt-ltb _ _ c.if-process-state.false)
