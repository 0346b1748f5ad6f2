-- `asking::first_disagreeing` meets its contract. The loop's invariant: the flags passed agree.
use mathlib.Core.Bool.{true, false}
use mathlib.Core.Path.{◌≡◌, sym}
use native.Mathlib.Omega.{arith}
use borrow.Author.Tests.{not-true, not-false}
use Rattle.linker.specs.Given.{library_of, program_of}
use Rattle.linker.specs.Linking.{flags_agree}
use Rattle.rules.proofs.ChoiceLaws.{passed-more, first-none, first-at}
use Rattle.linker.proofs.asking.first_disagreeing.Goals as goal

pub returns-then-flagged : goal.returns-then-flagged
unfolding flags_agree
returns-then-flagged c =
    let args = c.args in
    let loop = c.loop-v in
    let agree = flags_agree (library_of args.both.now) (program_of args.both.now) in
    let differ : agree loop.v ≡ false =
    rw (← c.flagged.ensures, ← c.flagged-in-loop-v.ensures) (not-true _ c.if-flagged.true) in
    sym (first-at agree _ loop.v (omega arith) loop.invariant differ)

pub loop-v-preserved : goal.loop-v-preserved
unfolding flags_agree
loop-v-preserved c =
    let args = c.args in
    let loop = c.loop-v in
    let agree = flags_agree (library_of args.both.now) (program_of args.both.now) in
    let same : agree loop.v ≡ true =
    rw (← c.flagged.ensures, ← c.flagged-in-loop-v.ensures) (not-false _ c.if-flagged.false) in
    passed-more agree loop.v loop.invariant same

pub returns : goal.returns
returns c =
    let count = c.args.count in
    let all : c.loop-v.v ≡ count = omega arith in
    sym (first-none _ count (rw all at c.loop-v.invariant))
