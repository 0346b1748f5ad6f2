-- `process::stack::unwind` meets its contract. The words of each turn are on the way that the laws tell of.
use Rattle.process.proofs.UnwindLaws.{unwind_stacked, unwind_found, unwind_on, unwind_end}
use Rattle.rules.proofs.StackLaws.{popped-length, popped-depth}
use native.Mathlib.Omega.{arith}
use lib.ListN.{length}
use mathlib.Core.Path.{refl, sym, ◌∙◌, ap}
use Rattle.process.proofs.stack.unwind.Goals as goal

pub loop-words-init : goal.loop-words-init
loop-words-init c = record { sized = c.requires.0; bounded = c.requires.1; rest = refl }

pub top-entry-requires : goal.top-entry-requires
top-entry-requires c = unwind_stacked c.loop-words.invariant c.loop-words-test.true

pub pop-requires : goal.pop-requires
pop-requires c = unwind_stacked c.loop-words.invariant c.loop-words-test.true

pub shape_of-words-then-entry-w : goal.shape_of-words-then-entry-w
shape_of-words-then-entry-w c =
    let loop = c.loop-words in
    ap length c.pop.ensures
    ∙ popped-length loop.words
    ∙ (loop.invariant.sized ∙ sym c.requires.0)

pub returns-then-entry-w : goal.returns-then-entry-w
returns-then-entry-w c =
    let inv = c.loop-words.invariant in
    let top = c.top-entry in
    c.pop.ensures ∙ unwind_found inv c.loop-words-test.true (sym top.ensures ∙ c.if-entry-w.true)

pub loop-words-smaller : goal.loop-words-smaller
loop-words-smaller c =
    let loop = c.loop-words in
    let entry = unwind_stacked loop.invariant c.loop-words-test.true in
    rw c.pop.ensures
    (omega (arith, popped-depth loop.words loop.invariant.sized, entry.held))

pub loop-words-preserved : goal.loop-words-preserved
loop-words-preserved c =
    let inv = c.loop-words.invariant in
    let top = c.top-entry in
    rw c.pop.ensures
    (unwind_on inv c.loop-words-test.true (λ e. c.if-entry-w.false (top.ensures ∙ e)))

pub shape_of-words : goal.shape_of-words
shape_of-words c = c.loop-words.invariant.sized ∙ sym c.requires.0

pub returns : goal.returns
returns c = unwind_end c.loop-words.invariant c.loop-words-test.false
