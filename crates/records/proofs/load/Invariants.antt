-- After p turns the words are those of the first p records.
use Rattle.std.proofs.Common.{◌≡◌}
use Rattle.records.specs.Roll.{loaded}
use Rattle.records.proofs.load.Given as goal

abbrev pub invariant-loop-p : goal.invariant-loop-p
invariant-loop-p l = l.words ≡ loaded l.roll l.p
