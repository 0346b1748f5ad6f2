-- An exchange through a buffer leaves the words of one straight from the roll, so the two steps are one.
use mathlib.Core.List.{List, [], ◌∷◌, ◌++◌}
use mathlib.Core.Path.{◌≡◌, refl, ◌∙◌, ap, fun_ext}
use Prim.Native.Nat.{ℕ, zero, suc, ◌+◌}
use native.Mathlib.Omega.{arith}
use lib.Dec.{eqb}
use lib.ListN.{length, set}
use lib.Seq.{sets}
use Rattle.std.specs.Prelude.{Ok, Err}
use Rattle.rules.specs.Answers.{Verdict}
use Rattle.rules.specs.Arrivals.{running, status_at, arrival_value}
use Rattle.rules.specs.Below.{below}
use Rattle.rules.specs.Buffered.{buffer, buffered_state, buffered_completed, buffered_arrived, buffered_running, buffered_by, buffered_step}
use Rattle.rules.specs.Buffered.{SameAsBuffered}
use Rattle.rules.specs.Collective.{gathered_from, received, completed_state}
use Rattle.rules.specs.Evaluation.{gathered_slot}
use Rattle.rules.specs.Process.{gathered_at, process_at, each_process, top, popped}
use Rattle.rules.specs.Step.{Outcome, processes_in, step_verdict, completed, arrived_at, step_running, step_taken, stepped_by, stepped}
use Rattle.rules.specs.Table.{Program, decode, Collective, barrier, broadcast, exchange, statement_at}
use Rattle.rules.proofs.BelowLaws.{below_length}
use Rattle.rules.proofs.TurnCases.{on_collective_lem, by-test}

-- a run of stores with one more behind it
sets_end : (words : List ℕ) (i : ℕ) (values : List ℕ) (v : ℕ)
    → sets words i (values ++ (v ∷ [])) ≡ set (sets words i values) (i + length values) v
sets_end words i [] v = ap (λ j. set words j v) (omega arith)
sets_end words i (w ∷ values) v =
    sets_end (set words i w) (suc i) values v
    ∙ ap (λ j. set (sets (set words i w) (suc i) values) j v) (omega arith)

-- the buffer's words are those straight from the roll
buffer-gathered : (roll : List ℕ) (r count : ℕ) (words : List ℕ)
    → sets words (gathered_at + gathered_slot r 0) (buffer roll count) ≡ gathered_from roll r count words
unfolding buffer below gathered_from
buffer-gathered roll r zero words = refl
buffer-gathered roll r (suc n) words =
    let at = gathered_at + gathered_slot r 0 in
    let e : at + n ≡ gathered_at + gathered_slot r n = omega arith in
    sets_end words at (buffer roll n) (arrival_value roll n)
    ∙ ap (λ j. set (sets words at (buffer roll n)) (at + j) (arrival_value roll n)) (below_length _ n)
    ∙ ap (λ j. set (sets words at (buffer roll n)) j (arrival_value roll n)) e
    ∙ ap (λ gathered. set gathered (gathered_at + gathered_slot r n) (arrival_value roll n)) (buffer-gathered roll r n words)

buffered_state_lem : (roll : List ℕ) (count : ℕ) (k : Collective) (state : List ℕ)
    → buffered_state roll count k state ≡ completed_state roll count k state
unfolding buffered_state completed_state received
buffered_state_lem roll count barrier state = refl
buffered_state_lem roll count (broadcast a b c) state = refl
buffered_state_lem roll count (exchange a r) state =
    ap (λ (change : ℕ → List ℕ → List ℕ). each_process change count state)
    (fun_ext (λ p. fun_ext (λ words. ap popped (buffer-gathered roll r count words))))

buffered_arrived_lem : (state roll : List ℕ) (count node : ℕ) (k : Collective)
    → buffered_arrived state roll count node k ≡ arrived_at state roll count node k
unfolding buffered_arrived buffered_completed arrived_at completed
buffered_arrived_lem state roll count node k = rw (buffered_state_lem roll count k state)

module _ (program : Program) (state roll : List ℕ) (p : ℕ) where
  abbrev count : ℕ
  count = processes_in roll

  buffered_running_lem : buffered_running program state roll count p ≡ step_running program state roll count p
  unfolding buffered_running step_running
  buffered_running_lem =
      on_collective_lem (λ (o : Outcome). o ≡ step_running program state roll count p) (statement_at program (top (process_at state p))) _
      (step_running program state roll count p) (λ k e. rw e (buffered_arrived_lem _ _ _ _ k)) (λ n. refl)

  buffered_by_lem : (verdict : Verdict) → buffered_by verdict program state roll p ≡ stepped_by verdict program state roll p
  unfolding buffered_by stepped_by step_taken
  buffered_by_lem (Ok _) =
      by-test (λ (o : Outcome). o ≡ step_taken program state roll count p) (eqb (status_at roll p) running) _ _
      (λ e. rw e buffered_running_lem) (λ e. refl)
  buffered_by_lem (Err r) = refl

pub same_as_buffered : SameAsBuffered
unfolding buffered_step stepped
same_as_buffered table state roll p = buffered_by_lem (decode table) state roll p (step_verdict table state roll p)
