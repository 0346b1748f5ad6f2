-- `machine::start::start_roll` meets its contract. The records passed are running.
use Rattle.rules.specs.Arrivals.{each_arrival, running_record}
use mathlib.Core.Path.{◌≡◌}
use Rattle.machine.proofs.start.start_roll.Given as goal

abbrev pub invariant-loop-p : goal.invariant-loop-p
invariant-loop-p l = (l.roll ≡ each_arrival (λ q. running_record) l.p l.initial.roll)
