-- After i turns the first i words are read.
use Rattle.std.proofs.Common.{◌≡◌, ◌++◌, drop}
use Rattle.rules.specs.Input.{words_of}
use Rattle.input.proofs.read_words.Given as goal

abbrev pub invariant-loop-i : goal.invariant-loop-i
invariant-loop-i l = l.place-items ≡ words_of l.i l.bytes ++ drop l.i l.initial.place-items
