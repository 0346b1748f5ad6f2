-- `asking::first_unlinked` meets its contract. The loop's invariant: every procedure passed links.
use Rattle.linker.specs.Given.{library_of, program_of}
use Rattle.linker.specs.Linking.{procedure_links}
use Rattle.rules.proofs.ChoiceLaws.{Passed}
use Rattle.linker.proofs.asking.first_unlinked.Given as goal

abbrev pub invariant-loop-p : goal.invariant-loop-p
invariant-loop-p l = Passed (procedure_links (library_of l.both) (program_of l.both)) l.p
