-- No record makes a move that does not exist, over any turn.
use mathlib.Core.Bool.{Bool, true, false, cond, not, ◌&&◌}
use mathlib.Core.List.{List}
use mathlib.Core.Logic.{◌⊎◌, inl, inr, ⊎_elim, ◌≢◌}
use mathlib.Core.Path.{◌≡◌, refl, sym, ◌∙◌, ap, subst}
use Prim.Native.Nat.{ℕ, ◌*◌, ◌<◌}
use native.Mathlib.Decide.{ℕ_discrete}
use lib.Dec.{leb, eqb}
use lib.ListN.{length}
use borrow.Author.Tests.{eqb-true, eq-eqb}
use Rattle.rules.specs.declared.Arrival.{Arrival}
use Rattle.std.specs.Prelude.{Ok, Err}
use Rattle.rules.specs.Answers.{Verdict, Accepted}
use Rattle.rules.specs.Arrivals.{arrival_size, running, waiting, status_number, running_record, ended_record}
use Rattle.rules.specs.Arrivals.{status_at, arrival_node, arrival_value, arrival_source, SameRecord, with_arrival, all_at_one_node}
use Rattle.rules.specs.Collective.{arrival_of, completed_state, released_roll}
use Rattle.rules.specs.Moves.{Moves, OnlyMoves}
use Rattle.rules.specs.Process.{stack_places, process_at, environment, depth, top}
use Rattle.rules.specs.Start.{question20, question21}
use Rattle.rules.specs.Step.{Outcome, processes_in, question22, stack_fits, fields_zero, leave_fits, record_fits, process_fits}
use Rattle.rules.specs.Step.{completed, step_running, step_taken, team_verdict, step_verdict, stepped_by, stepped}
use Rattle.rules.specs.Table.{Program, decode, Collective}
use Rattle.rules.specs.WellFormed.{well_formed}
use Rattle.rules.proofs.AnswerLaws.{both_left, both_right, then_first, then_rest, ask_holds, each-passed}
use Rattle.rules.proofs.ArrivalLaws.{RecordIs, with_arrival-length, with_arrival-same, with_arrival-other}
use Rattle.rules.proofs.ChoiceLaws.{bool_cases}
use Rattle.rules.proofs.Completion.{released-is}
use Rattle.rules.proofs.FairLaws.{has_last}
use Rattle.rules.proofs.Standing.{arrival-brought}
use Rattle.rules.proofs.StatusLaws.{one_node_waits}
use Rattle.rules.proofs.TurnCases.{by-test, by-step, roll_arrived}

-- a running process's record
pub running_record_lem : (table words roll : List ℕ) (p : ℕ) → status_at roll p ≡ running → record_fits (decode table) words roll p ≡ true
    → RecordIs roll p running_record
unfolding record_fits fields_zero
running_record_lem table words roll p runs fit =
    let node = eqb (arrival_node roll p) 0 in
    let value = eqb (arrival_value roll p) 0 in
    let source = eqb (arrival_source roll p) 0 in
    let held = not (eqb (depth words) 0) in
    let all : (held && (node && value && source) && leave_fits (decode table) words) ≡ true =
    rw (eq-eqb (status_at roll p) running runs) at fit in
    let zero = both_right held (node && value && source) (both_left (held && (node && value && source)) (leave_fits (decode table) words) all) in
    let front = both_left (node && value) source zero in
    record {
      status = runs;
      node = eqb-true (arrival_node roll p) 0 (both_left node value front);
      value = eqb-true (arrival_value roll p) 0 (both_right node value front);
      source = eqb-true (arrival_source roll p) 0 (both_right (node && value) source zero);
    }

-- what a step whose questions hold tells of the roll, and of the record of a process that runs
record Asked (table state roll : List ℕ) (count p : ℕ) : Type 0 where
  pub sized : length roll ≡ arrival_size * count
  pub within : p < count
  pub rests : status_at roll p ≡ running → RecordIs roll p running_record

module _ (table state roll : List ℕ) (p : ℕ) where
  abbrev count : ℕ
  count = processes_in roll

  abbrev words : List ℕ
  words = process_at state p

  abbrev program : Program
  program = decode table

  fits_record : process_fits program state roll p ≡ true → record_fits program words roll p ≡ true
  unfolding process_fits
  fits_record = both_right (leb (depth words) stack_places && stack_fits program words) (record_fits program words roll p)

  asked : step_verdict table state roll p ≡ Accepted → Asked table state roll count p
  unfolding step_verdict team_verdict
  asked v =
      let team : team_verdict table state roll p ≡ Accepted = then_first (team_verdict table state roll p) _ v in
      let after26 = then_rest (well_formed table) _ team in
      let after21 = then_rest (question21 count roll) _ after26 in
      let after20 = then_rest (question20 count state) _ after21 in
      let after22 = then_rest (question22 count p) _ after20 in
      let within = has_last table state roll p team in
      record {
        sized = eqb-true (length roll) (arrival_size * count)
            (both_left _ _ (both_left _ _ (ask_holds 21 _ (then_first (question21 count roll) _ after26))));
        within = within;
        rests = λ runs.
            running_record_lem table words roll p runs
            (fits_record (each-passed 23 count (process_fits program state roll) (then_first _ _ after22) p within));
      }

-- the record of process q in another roll stays or makes a move
abbrev Kept : List ℕ → ℕ → List ℕ → Type 0
Kept roll q after = SameRecord after roll q ⊎ Moves (status_at roll q) (status_at after q)

unmoved : (roll : List ℕ) (q : ℕ) → Kept roll q roll
unmoved roll q = inl (record { status = refl; node = refl; value = refl; source = refl })

same_rest : (roll after : List ℕ) (q : ℕ) (r : Arrival) → RecordIs after q r → RecordIs roll q r → SameRecord after roll q
same_rest roll after q r new old =
    record {
      status = new.status ∙ sym old.status;
      node = new.node ∙ sym old.node;
      value = new.value ∙ sym old.value;
      source = new.source ∙ sym old.source;
    }

module _ (table state roll : List ℕ) (count p : ℕ) (a : Asked table state roll count p) (runs : status_at roll p ≡ running) where
  -- by whose record it is
  by-own : (q : ℕ) (after : List ℕ) → (q ≢ p → Kept roll q after) → Kept roll p after → Kept roll q after
  by-own q after other own =
      elim (ℕ_discrete q p) [ yes e ↦ subst (λ (m : ℕ). Kept roll m after) (sym e) own | no d ↦ other d ]

  ended-kept : (q : ℕ) → Kept roll q (with_arrival roll p ended_record)
  ended-kept q =
      by-own q (with_arrival roll p ended_record) (λ d. inl (with_arrival-other roll p q ended_record d))
      (inr (inr (inr (inr (runs, (with_arrival-same roll count p ended_record a.sized a.within).status)))))

  module _ (k : Collective) where
    abbrev brought : Arrival
    brought = arrival_of (decode table) (environment (process_at state p) p count) (top (process_at state p)) k

    abbrev arrived : List ℕ
    arrived = roll_arrived table count state roll p k

    arrived-waits : status_at arrived p ≡ waiting
    arrived-waits =
        (with_arrival-same roll count p brought a.sized a.within).status
        ∙ ap (λ (r : Arrival). status_number r.status)
        (arrival-brought (decode table) (environment (process_at state p) p count) (top (process_at state p)) k)

    arrived-kept : (q : ℕ) → Kept roll q arrived
    arrived-kept q = by-own q arrived (λ d. inl (with_arrival-other roll p q brought d)) (inr (inl (runs, arrived-waits)))

    -- the collective takes place
    abbrev after : List ℕ
    after = completed_state arrived count k state

    abbrev empty : ℕ → Bool
    empty q = eqb (depth (process_at after q)) 0

    module _ (meets : all_at_one_node arrived count ≡ true) (q : ℕ) (m : q < count) where
      is : RecordIs (released_roll after count arrived) q (cond (empty q) ended_record running_record)
      is = released-is after arrived count (with_arrival-length roll p brought ∙ a.sized) q m

      released-kept : Kept roll q (released_roll after count arrived)
      released-kept =
          ⊎_elim
          (λ (z : empty q ≡ true).
          let ends : RecordIs (released_roll after count arrived) q ended_record = rw z at is in
          elim (ℕ_discrete q p) [
            | yes e ↦ inr (inr (inr (inr (rw e runs, ends.status))))
            | no d ↦ inr (inr (inr (inl (waited d, ends.status))))
          ])
          (λ (z : empty q ≡ false).
          let resumes : RecordIs (released_roll after count arrived) q running_record = rw z at is in
          elim (ℕ_discrete q p) [
            | yes e ↦ inl (same_rest roll (released_roll after count arrived) q running_record resumes (rw e (a.rests runs)))
            | no d ↦ inr (inr (inl (waited d, resumes.status)))
          ])
          (bool_cases (empty q))
        where
          waited : q ≢ p → status_at roll q ≡ waiting
          waited d = sym (with_arrival-other roll p q brought d).status ∙ one_node_waits arrived count q meets m

  running-kept : (q : ℕ) → q < count → Kept roll q (step_running (decode table) state roll count p).roll
  unfolding completed
  running-kept q m =
      by-step table count state roll p (Unit {0}) (λ outcome. Kept roll q outcome.roll)
      (record {
        moves = λ h n. unmoved roll q;
        finishes = λ h d. ended-kept q;
        arrives = λ h k e apart. arrived-kept k q;
        completes = λ h k e meets. released-kept k meets q m;
      })
      tt

module _ (table state roll : List ℕ) (p q : ℕ) (m : q < processes_in roll) where
  taken-kept : Asked table state roll (processes_in roll) p → Kept roll q (step_taken (decode table) state roll (processes_in roll) p).roll
  unfolding step_taken
  taken-kept a =
      by-test (λ (outcome : Outcome). Kept roll q outcome.roll) (eqb (status_at roll p) running) _ _
      (λ e. running-kept table state roll (processes_in roll) p a (eqb-true (status_at roll p) running e) q m)
      (λ e. by-test (λ (outcome : Outcome). Kept roll q outcome.roll) (eqb (status_at roll p) waiting) _ _ (λ f. unmoved roll q) (λ f. unmoved roll q))

  by-kept : (v : Verdict) → (v ≡ Accepted → Asked table state roll (processes_in roll) p)
      → Kept roll q (stepped_by v (decode table) state roll p).roll
  unfolding stepped_by
  by-kept (Ok _) a = taken-kept (a refl)
  by-kept (Err r) a = unmoved roll q

pub only-moves : OnlyMoves
unfolding stepped
only-moves table state roll p q m = by-kept table state roll p q m (step_verdict table state roll p) (asked table state roll p)
