-- After i turns the first i latches are copied.
use Rattle.std.proofs.Common.{◌≡◌, ◌++◌, take, drop}
use Rattle.ffi.proofs.fc_latches.Given as goal

abbrev pub invariant-loop-i : goal.invariant-loop-i
invariant-loop-i l = l.place-items ≡ take l.i l.latches ++ drop l.i l.initial.place-items
