-- `take_top` meets its contract. The loop's invariant: the words from k on hold no node.
use Rattle.calls.proofs.TopLaws.{top-answer, none-topped}
use native.Mathlib.Omega.{arith}
use Rattle.calls.proofs.take_top.Goals as goal

pub returns-then-word-ne0 : goal.returns-then-word-ne0
returns-then-word-ne0 c =
    let inv = c.loop-k.invariant in
    let bit = c.ilog2-bit.ensures in
    top-answer _ _ _ _ inv.0 c.requires.0 (omega arith) (omega (arith, c.requires)) bit.bound bit.power_le bit.next_power_gt inv.1

pub returns : goal.returns
returns c =
    let inv = c.loop-k.invariant in
    rw inv.0
    (none-topped _ c.requires.0 (λ i above below. rw inv.0 at (inv.1 i (omega arith) below)))
