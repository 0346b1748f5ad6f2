-- `writing::flags_word` meets its contract.
use mathlib.Core.Path.{sym, ◌∙◌}
use native.Mathlib.Omega.{arith}
use Rattle.linker.proofs.WordLaws.{joining, flags-program, flags_library}
use Rattle.linker.proofs.writing.flags_word.Goals as goal

pub returns-then-both : goal.returns-then-both
returns-then-both c =
    let read = c.word.ensures in
    read ∙ sym (flags-program (joining c.args.both.now c.requires) c.if-both.true (omega (arith, read)))

pub returns-else-both : goal.returns-else-both
returns-else-both c =
    let read = c.word-else-both.ensures in
    read ∙ sym (flags_library (joining c.args.both.now c.requires) c.if-both.false (omega (arith, read)))
