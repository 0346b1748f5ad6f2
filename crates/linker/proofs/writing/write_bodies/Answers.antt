-- `writing::write_bodies` meets its contract. The loop's invariant: the words passed are written.
use mathlib.Core.Path.{refl, sym, ◌∙◌, ap, subst}
use native.Mathlib.Omega.{arith}
use Rattle.linker.specs.Given.{moved_word, Movable, body_unit, moved_procedure}
use Rattle.linker.proofs.WordLaws.{joining, procedures-there, procedure_movable}
use Rattle.rules.specs.WellFormed.{joined}
use Rattle.writer.proofs.WordLaws.{word_more}
use Rattle.linker.proofs.writing.write_bodies.Goals as goal

pub overflow_sub-count : goal.overflow_sub-count
overflow_sub-count c = procedures-there (joining c.args.both.now c.requires.0)

pub loop-k-init : goal.loop-k-init
unfolding joined
loop-k-init c = refl

pub moved-requires : goal.moved-requires
moved-requires c =
    let both = c.args.both.now in
    subst (Movable both body_unit) (sym c.word-procedure.ensures) (procedure_movable (joining both c.requires.0) c.loop-k.k (omega arith))

pub loop-k-preserved : goal.loop-k-preserved
loop-k-preserved c =
    let loop = c.loop-k in
    let both = c.args.both.now in
    let put = c.put_word.ensures in
    word_more (moved_procedure both) c.args.out.now _ loop.k _ _ _ loop.invariant put
    (c.moved.ensures ∙ ap (moved_word both body_unit) c.word-procedure.ensures)
