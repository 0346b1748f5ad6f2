-- `asking::first_disagreeing` meets its contract. The loop's invariant: the flags passed agree.
use Rattle.linker.specs.Given.{library_of, program_of}
use Rattle.linker.specs.Linking.{flags_agree}
use Rattle.rules.proofs.ChoiceLaws.{Passed}
use Rattle.linker.proofs.asking.first_disagreeing.Given as goal

abbrev pub invariant-loop-v : goal.invariant-loop-v
invariant-loop-v l = Passed (flags_agree (library_of l.both) (program_of l.both)) l.v
