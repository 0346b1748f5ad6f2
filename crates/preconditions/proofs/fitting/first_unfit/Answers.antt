-- `preconditions::fitting::first_unfit` meets its contract. The loop has passed only processes that question 23 holds of.
use Rattle.rules.proofs.ChoiceLaws.{passed_none, passed-more}
use Rattle.rules.proofs.ProcessLaws.{process_length}
use Rattle.rules.proofs.ChoiceLaws.{first-at, first-none}
use Rattle.rules.specs.Step.{process_fits}
use lib.ListN.{length}
use native.Mathlib.Omega.{arith}
use mathlib.Core.Path.{◌≡◌, sym, ◌∙◌, ap}
use mathlib.Core.Bool.{true, false}
use Rattle.rules.specs.Table.{decode}
use Rattle.preconditions.proofs.fitting.first_unfit.Goals as goal

pub loop-p-init : goal.loop-p-init
loop-p-init c = passed_none _

pub words_fit-requires : goal.words_fit-requires
words_fit-requires c =
    let args = c.args in
    let given = c.requires in (
      given.0,
      ap length c.process_at.ensures
          ∙ process_length _ args.count c.loop-p.p given.1 c.loop-p-test.true,
      omega arith,
    )

pub returns-then-not-words_fit : goal.returns-then-not-words_fit
unfolding process_fits
returns-then-not-words_fit c =
    let loop = c.loop-p in
    let args = c.args in
    let fails : process_fits (decode args.table.now.bytes.now) args.state.now args.roll.now loop.p ≡ false =
    rw (← c.process_at.ensures) (sym c.words_fit.ensures ∙ c.if-not-words_fit.true) in
    sym (first-at (process_fits (decode args.table.now.bytes.now) args.state.now args.roll.now) _ loop.p
    c.loop-p-test.true loop.invariant fails)

pub loop-p-preserved : goal.loop-p-preserved
unfolding process_fits
loop-p-preserved c =
    let loop = c.loop-p in
    let args = c.args in
    let passes : process_fits (decode args.table.now.bytes.now) args.state.now args.roll.now loop.p ≡ true =
    rw (← c.process_at.ensures) (sym c.words_fit.ensures ∙ c.if-not-words_fit.false) in
    passed-more (process_fits (decode args.table.now.bytes.now) args.state.now args.roll.now) loop.p loop.invariant passes

pub returns : goal.returns
returns c =
    let end : c.loop-p.p ≡ c.args.count = omega arith in
    sym (first-none _ c.args.count (rw end at c.loop-p.invariant))
