-- After p turns the first p records are saved.
use Rattle.std.proofs.Common.{◌≡◌}
use Rattle.records.specs.Roll.{saved}
use Rattle.records.proofs.save.Given as goal

abbrev pub invariant-loop-p : goal.invariant-loop-p
invariant-loop-p l = l.roll ≡ saved l.words l.p l.initial.roll
