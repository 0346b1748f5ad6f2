-- `scheduler::first_left` meets its contract, event by event.
use Rattle.scheduler.specs.Serving.{unfit_in, MovedOn, LeftBy, Turned}
use Rattle.rules.specs.declared.Event.{Event}
use Rattle.rules.specs.Process.{process_at}
use Rattle.rules.specs.Step.{leave_fits, process_fits}
use Rattle.rules.specs.Table.{Program, decode}
use Rattle.rules.proofs.ChoiceLaws.{first-none, first-at}
use native.Mathlib.Decide.{ℕ_discrete}
use native.Mathlib.Omega.{arith}
use Prim.Native.Nat.{ℕ, ◌<◌}
use mathlib.Core.Bool.{true, false}
use mathlib.Core.List.{List}
use mathlib.Core.Path.{◌≡◌, sym, ◌∙◌, ap, subst}
use mathlib.Core.Logic.{inl, inr}
use Rattle.scheduler.proofs.first_left.Goals.{else-leave_on_top-via-else-leave_on_top, else-leave_on_top-via-then-leave_on_top+else-not-leave_fits}
use Rattle.scheduler.proofs.first_left.Goals as goal

-- what is left, by the event that the code has told
told : {table : List ℕ} {state roll : List ℕ} {count p : ℕ} {e f : Event}
    → Turned table state roll count p e → e ≡ f → LeftBy f (decode table) state roll count p
told {table} {state} {roll} {count} {p} turned same = subst (λ x. LeftBy x (decode table) state roll count p) same turned.left

module _ {program : Program} {state roll : List ℕ} {count p : ℕ} (on : MovedOn program state roll count p) where
  fit-again : leave_fits program (process_at state p) ≡ true → count ≡ unfit_in program state roll count
  fit-again e =
      sym (first-none (process_fits program state roll) count
      (λ q l. elim (ℕ_discrete q p) [ yes same ↦ rw same (on.own ∙ e) | no n ↦ on.others q l n ]))

  unfit_now : p < count → leave_fits program (process_at state p) ≡ false → p ≡ unfit_in program state roll count
  unfit_now l e =
      sym (first-at (process_fits program state roll) count p l
      (λ q m. on.others q (omega arith) (λ same. omega arith)) (on.own ∙ e))

pub leave_on_top-requires : goal.leave_on_top-requires
leave_on_top-requires c =
    let on = told c.requires c.in-Moved.is in
    (c.requires.read, rw c.process_at-words.ensures on.stacked, rw c.process_at-words.ensures on.statement)

pub leave_fits-requires : goal.leave_fits-requires
leave_fits-requires c =
    let on = told c.requires c.in-Moved.is in (
      c.requires.read,
      rw c.process_at-words.ensures on.stacked,
      rw c.process_at-words.ensures on.statement,
      sym c.leave_on_top.ensures ∙ c.if-leave_on_top.true,
    )

pub returns-then-not-leave_fits : goal.returns-then-not-leave_fits
returns-then-not-leave_fits c =
    unfit_now (told c.requires c.in-Moved.is) c.requires.within
    (ap (leave_fits _) (sym c.process_at-words.ensures) ∙ sym c.leave_fits.ensures ∙ c.if-not-leave_fits.true)

pub returns-else-leave_on_top : goal.returns-else-leave_on_top
unfolding leave_fits
returns-else-leave_on_top c =
    fit-again (told c.requires c.in-Moved.is)
    (ap (leave_fits _) (sym c.process_at-words.ensures)
    ∙ elim c.else-leave_on_top.branch [
      | else-leave_on_top-via-else-leave_on_top w ↦ rw (sym c.leave_on_top.ensures ∙ w.if-leave_on_top.false)
      | else-leave_on_top-via-then-leave_on_top+else-not-leave_fits w ↦ sym w.leave_fits.ensures ∙ w.if-not-leave_fits.false
    ])

pub returns-in-Finished : goal.returns-in-Finished
returns-in-Finished c =
    let turned = c.requires in
    sym (first-none _ _
    (elim c.in-Finished.is [
      | inl e ↦ told turned e
      | inr (inl (x, e)) ↦ told turned e
      | inr (inr (inl e)) ↦ told turned e
      | inr (inr (inr e)) ↦ told turned e
    ]))
