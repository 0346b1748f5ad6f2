-- `machine::start::lay_out` meets its contract. The words passed are laid out.
use lib.Seq.{get_or-set_same, get_or-set_other}
use lib.ListN.{length-set}
use native.Mathlib.Omega.{arith}
use native.Mathlib.Decide.{dec_lt}
use mathlib.Core.Path.{◌≡◌, sym, ◌∙◌}
use Rattle.machine.proofs.start.lay_out.Goals as goal

pub loop-i-init : goal.loop-i-init
loop-i-init c = (c.requires.0, λ k l. absurd (omega arith))

pub loop-i-preserved : goal.loop-i-preserved
loop-i-preserved c =
    let loop = c.loop-i in
    let words = loop.words in
    let i = loop.i in (
      length-set words i c.laid_word.result ∙ loop.invariant.0,
      λ k l. elim (dec_lt k i) [
        | yes b ↦ get_or-set_other words i k c.laid_word.result 0 (λ e. omega arith) ∙ loop.invariant.1 k b
        | no b ↦
            let e : k ≡ i = omega arith in
            rw e (get_or-set_same words i c.laid_word.result 0 (omega arith) ∙ c.laid_word.ensures)
      ],
    )

pub shape_of-words : goal.shape_of-words
shape_of-words c = c.loop-i.invariant.0 ∙ sym c.requires.0

pub returns : goal.returns
returns c = λ i l. c.loop-i.invariant.1 i (omega arith)
