-- `preconditions::fitting::record_fits` meets its contract.
use lib.ListN.{get_or}
use Rattle.preconditions.proofs.QuestionLaws.{record_empty, top-fits}
use Rattle.process.specs.Given.{Stacked}
use Rattle.rules.specs.Process.{depth_at, depth, stack_places, process_words, top}
use Rattle.rules.specs.Step.{stack_fits, leave_fits, record_fits}
use Rattle.rules.specs.Table.{decode}
use Rattle.rules.specs.WellFormed.{is_statement}
use borrow.Author.Tests.{ne_eqb, eq-eqb}
use native.Mathlib.Omega.{arith}
use lib.ListN.{length}
use Prim.Native.Nat.{ℕ, ◌≤◌}
use mathlib.Core.Bool.{true}
use mathlib.Core.List.{List}
use mathlib.Core.Path.{◌≡◌, sym, ◌∙◌}
use Rattle.preconditions.proofs.fitting.record_fits.Goals as goal

-- a stack that is not empty, of statements: its top is one
module _ (words : List ℕ) (sized : length words ≡ process_words) (few : depth words ≤ stack_places)
    (some : get_or words depth_at 0 ≡ 0 → ⊥) where
  stacked : Stacked words
  stacked = record { sized = sized; held = omega arith; bounded = few }

  on_top : (table : List ℕ) → stack_fits (decode table) words ≡ true → is_statement (decode table) (top words) ≡ true
  on_top table fits = top-fits _ _ fits stacked.held

pub leave_on_top-requires : goal.leave_on_top-requires
leave_on_top-requires c =
    let (read, sized, few, size, fits) = c.requires in
    (read, stacked _ sized few c.if-empty-2.false, on_top _ sized few c.if-empty-2.false _ fits)

pub leave_fits-requires : goal.leave_fits-requires
leave_fits-requires c =
    let (read, sized, few, size, fits) = c.requires in (
      read,
      stacked _ sized few c.if-empty-2.false,
      on_top _ sized few c.if-empty-2.false _ fits,
      sym c.leave_on_top.ensures ∙ c.if-not-leave_on_top.false,
    )

pub wait_fits-requires : goal.wait_fits-requires
wait_fits-requires c =
    let (read, sized, few, size, fits) = c.requires in
    (read, stacked _ sized few c.if-empty-2.false, size, on_top _ sized few c.if-empty-2.false _ fits)

pub returns-then-empty : goal.returns-then-empty
unfolding record_fits
returns-then-empty c =
    rw (sym c.status_at-status.ensures ∙ c.if-status-eq-ENDED.true, eq-eqb _ _ c.if-empty.true) c.fields_zero.ensures

pub returns-then-status-eq-ENDED : goal.returns-then-status-eq-ENDED
unfolding record_fits
returns-then-status-eq-ENDED c =
    rw (sym c.status_at-status.ensures ∙ c.if-status-eq-ENDED.true, ne_eqb _ _ c.if-empty.false)

pub returns-then-empty-2 : goal.returns-then-empty-2
returns-then-empty-2 c =
    sym (record_empty _ _ _ _ (λ e. c.if-status-eq-ENDED.false (c.status_at-status.ensures ∙ e)) (eq-eqb _ _ c.if-empty-2.true))

pub returns-then-not-fields_zero : goal.returns-then-not-fields_zero
unfolding record_fits
returns-then-not-fields_zero c =
    rw (
      sym c.status_at-status.ensures ∙ c.if-status-eq-RUNNING.true,
      ne_eqb _ _ c.if-empty-2.false,
      sym c.fields_zero-then-status-eq-RUNNING.ensures ∙ c.if-not-fields_zero.true,
    )

pub returns-then-not-leave_on_top : goal.returns-then-not-leave_on_top
unfolding record_fits leave_fits
returns-then-not-leave_on_top c =
    rw (
      sym c.status_at-status.ensures ∙ c.if-status-eq-RUNNING.true,
      ne_eqb _ _ c.if-empty-2.false,
      sym c.fields_zero-then-status-eq-RUNNING.ensures ∙ c.if-not-fields_zero.false,
      sym c.leave_on_top.ensures ∙ c.if-not-leave_on_top.true,
    )

pub returns-then-status-eq-RUNNING : goal.returns-then-status-eq-RUNNING
unfolding record_fits
returns-then-status-eq-RUNNING c =
    rw (
      sym c.status_at-status.ensures ∙ c.if-status-eq-RUNNING.true,
      ne_eqb _ _ c.if-empty-2.false,
      sym c.fields_zero-then-status-eq-RUNNING.ensures ∙ c.if-not-fields_zero.false,
    )
    c.leave_fits.ensures

pub returns-then-status-eq-WAITING : goal.returns-then-status-eq-WAITING
unfolding record_fits
returns-then-status-eq-WAITING c =
    rw (sym c.status_at-status.ensures ∙ c.if-status-eq-WAITING.true, ne_eqb _ _ c.if-empty-2.false) c.wait_fits.ensures

pub returns : goal.returns
unfolding record_fits
returns c =
    rw (
      ← c.status_at-status.ensures,
      ne_eqb _ _ c.if-status-eq-RUNNING.false,
      ne_eqb _ _ c.if-status-eq-WAITING.false,
      ne_eqb _ _ c.if-status-eq-ENDED.false,
    )
