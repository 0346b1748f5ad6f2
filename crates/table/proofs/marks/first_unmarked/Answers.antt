-- `marks::first_unmarked` meets its contract: a full word is passed, and any other holds the answer.
use Rattle.std.proofs.Common.{◌*◌, ◌∙◌, sym}
use native.Mathlib.Decide.{dec_lt}
use native.Mathlib.Omega.{arith}
use Rattle.table.specs.Marks.{bit_at}
use Rattle.table.proofs.BitLaws.{bits_full, first-ended}
use Rattle.rules.proofs.ChoiceLaws.{first-none}
use Rattle.table.proofs.marks.first_unmarked.Goals as goal

pub returns-then-word : goal.returns-then-word
returns-then-word c =
    c.min.ensures
    ∙ rw c.trailing_ones.ensures
    (first-ended c.args.marks.now c.loop-i.i c.args.count (omega (arith, c.type_inv.marks c.loop-i.i)) c.loop-i.invariant)

pub loop-i-preserved : goal.loop-i-preserved
loop-i-preserved c = λ k low.
    elim (dec_lt k (32 * c.loop-i.i)) [
      | yes before ↦ c.loop-i.invariant k before
      | no here ↦ bits_full c.args.marks.now c.loop-i.i k c.if-word.false (omega arith)
    ]

pub returns : goal.returns
returns c = sym (first-none (bit_at c.args.marks.now) c.args.count (λ k low. c.loop-i.invariant k (omega arith)))
