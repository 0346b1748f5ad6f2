-- What a turn leaves of a state and a roll that question 23 held of, be they made up: sizes, not all waiting at one node, and what
-- is left to ask.
use mathlib.Core.Bool.{true, false}
use mathlib.Core.List.{List}
use mathlib.Core.Logic.{◌≢◌, ⊎_elim}
use mathlib.Core.Path.{◌≡◌, refl, sym, ◌∙◌, subst, fun_ext}
use Prim.Native.Nat.{ℕ, ◌*◌, ◌-◌, ◌<◌}
use native.Mathlib.Decide.{ℕ_discrete}
use native.Mathlib.Omega.{arith}
use lib.Dec.{eqb}
use lib.ListN.{length}
use borrow.Author.Tests.{eqb-true, eqb-false, ne_eqb, le-leb}
use Rattle.rules.specs.declared.Answer.{Answer}
use Rattle.rules.specs.declared.Refusal.{Refusal}
use Rattle.std.specs.Prelude.{Ok, Err}
use Rattle.rules.specs.Answers.{Stepped}
use Rattle.rules.specs.Arrivals.{running, arrival_size, running_record, ended_record, status_at, SameRecord, all_at_one_node}
use Rattle.rules.specs.Collective.{arrival_of, received, completed_state, released_roll}
use Rattle.rules.specs.Process.{stack_places, process_words, process_at, with_process, environment, depth, top, popped}
use Rattle.rules.specs.Step.{Outcome, stack_fits, fields_zero, lacked_zero, wait_fits, leave_fits, record_fits, process_fits}
use Rattle.rules.specs.Step.{completed, step_running, step_taken}
use Rattle.rules.specs.Table.{Program, decode, Collective, barrier, broadcast, exchange, collective, statement_at}
use Rattle.rules.specs.WellFormed.{is_statement}
use Rattle.rules.proofs.ArrivalLaws.{RecordIs, with_arrival-length, with_arrival-same, with_arrival-other, each_arrival-length}
use Rattle.rules.proofs.ChoiceLaws.{bool_cases, first-none, all_true, all-at}
use Rattle.rules.proofs.CollectiveLaws.{completed-length, completed-at}
use Rattle.rules.proofs.EntryLaws.{Statements, each-kept, each-popped, statements-fit, statements-advanced}
use Rattle.loops.specs.Upward.{has_leave}
use Rattle.loops.proofs.BuiltLaws.{no_leave_at}
use Rattle.rules.proofs.Formed.{formed}
use Rattle.rules.proofs.HomeLaws.{stores_low}
use Rattle.rules.proofs.Completion.{released-is, released-apart}
use Rattle.rules.proofs.MoveLaws.{running_record_lem}
use Rattle.rules.proofs.ProcessLaws.{process_length, with_process-length, with_process-same, with_process-other}
use Rattle.rules.proofs.StackLaws.{entry, top-entry, advanced-length, received-length, received-depth, received-entry}
use Rattle.rules.proofs.Standing.{Standing, runs as stands-running, waits, ends, arrival-brought, brought_record, standing-fits}
use Rattle.rules.proofs.StatusLaws.{one_node_not_waiting}
use Rattle.rules.proofs.TurnCases.{next_words, roll_ended, roll_arrived, by-step}
use Rattle.process.specs.Given.{Stacked}
use Rattle.machine.specs.Outcomes.{Ready, Gives}
use Rattle.machine.proofs.OutcomeLaws.{taken-run}
use Rattle.machine.proofs.TeamLaws.{ready-stacked, ready-place}
use Rattle.preconditions.proofs.FittingLaws.{bounded, stack-fit, record_fit}
use Rattle.scheduler.specs.Serving.{unfit_in, Fit, MovedOn, LeftBy, Turned}

-- question 23 of a process goes by its words and its record
lacked_same : (roll other : List ℕ) (q : ℕ) → SameRecord other roll q → (k : Collective) → lacked_zero other q k ≡ lacked_zero roll q k
unfolding lacked_zero
lacked_same roll other q same barrier = rw (same.value, same.source)
lacked_same roll other q same (broadcast a b c) = refl
lacked_same roll other q same (exchange a r) = rw same.source

fits-same : (program : Program) (state roll other : List ℕ) (q : ℕ) → SameRecord other roll q
    → process_fits program state other q ≡ process_fits program state roll q
unfolding process_fits record_fits fields_zero wait_fits
fits-same program state roll other q same =
    rw (same.status, same.node, same.value, same.source, fun_ext (lacked_same roll other q same))

-- what is left to ask, by an answer
abbrev pub LeftOf : Stepped → Program → List ℕ → List ℕ → ℕ → ℕ → Type 0
LeftOf (Ok answer) program state roll count p = LeftBy answer.event program state roll count p
LeftOf (Err r) program state roll count p = ⊥

pub record Leaves (table : List ℕ) (count p : ℕ) (outcome : Outcome) : Type 0 where
  pub stated : length outcome.state ≡ process_words * count
  pub rolled : length outcome.roll ≡ arrival_size * count
  pub apart : all_at_one_node outcome.roll count ≡ false
  pub left : LeftOf outcome.answer (decode table) outcome.state outcome.roll count p
  pub but_leaves : (q : ℕ) → q < count → leave_fits (decode table) (process_at outcome.state q) ≡ true
      → process_fits (decode table) outcome.state outcome.roll q ≡ true

module _ {table : List ℕ} {state roll : List ℕ} {count p : ℕ} (r : Ready table state roll count p)
    (runs : status_at roll p ≡ running) where
  abbrev words : List ℕ
  words = process_at state p

  abbrev next : List ℕ
  next = next_words table count state roll p

  apart : all_at_one_node roll count ≡ false
  apart = one_node_not_waiting roll count p r.within (λ w. let z : ◌≡◌ {A = ℕ} 0 1 = cc in omega arith)

  stacked : Stacked words
  stacked = ready-stacked r runs

  running-is : RecordIs roll p running_record
  running-is = running_record_lem table words roll p runs (record_fit (decode table) state roll p (r.fits p r.within))

  next-sized : length next ≡ process_words
  next-sized = advanced-length (decode table) (environment words p count) words (statement_at (decode table) (top words)) ∙ stacked.sized

  statements : (q : ℕ) → q < count → Statements (decode table) (process_at state q)
  unfolding stack_fits
  statements q l =
      record {
        depth-high = bounded (decode table) state roll q (r.fits q l);
        entries = all-at (λ i. is_statement (decode table) (entry (process_at state q) i)) (depth (process_at state q))
            (stack-fit (decode table) state roll q (r.fits q l));
      }

  next-statements : Statements (decode table) next
  next-statements =
      statements-advanced (decode table) (formed table r.team.read.passed) words stacked.sized (statements p r.within) stacked.held
      (environment words p count) (ready-place r runs)

  abbrev moved-state : List ℕ
  moved-state = with_process state p next

  at_p : process_at moved-state p ≡ next
  at_p = with_process-same state count p next r.team.stated next-sized r.within

  others-fit : (other : List ℕ) → ((q : ℕ) → q ≢ p → SameRecord other roll q) → (q : ℕ) → q < count → q ≢ p
      → process_fits (decode table) moved-state other q ≡ true
  unfolding process_fits
  others-fit other same q l n =
      rw (with_process-other state count p next q r.team.stated next-sized r.within l n)
      (fits-same (decode table) state roll other q (same q n) ∙ r.fits q l)

  moved-stated : length moved-state ≡ process_words * count
  moved-stated = with_process-length state count p next r.team.stated next-sized r.within ∙ r.team.stated

  -- it leaves a statement behind it
  moves_on : depth next ≢ 0 → MovedOn (decode table) moved-state roll count p
  unfolding process_fits record_fits fields_zero stack_fits
  moves_on n =
      let is = running-is in
      let all = next-statements in
      record {
        others = others-fit roll (λ q o. record { status = refl; node = refl; value = refl; source = refl });
        own = rw (
          at_p,
          le-leb (depth next) stack_places all.depth-high,
          all_true (λ i. is_statement (decode table) (entry next i)) (depth next) all.entries,
          is.status,
          is.node,
          is.value,
          is.source,
          ne_eqb (depth next) 0 n,
        );
        stacked = rw at_p (record { sized = next-sized; held = omega arith; bounded = all.depth-high });
        statement = rw (at_p, top-entry next next-sized (omega arith)) (all.entries (depth next - 1) (omega arith));
      }

  -- all processes fit, if p does and the others' records are the same
  all_fit : (other : List ℕ) → ((q : ℕ) → q ≢ p → SameRecord other roll q) → record_fits (decode table) next other p ≡ true
      → Fit (decode table) moved-state other count
  all_fit other same own q l =
      elim (ℕ_discrete q p) [
        | yes e ↦ rw e (statements-fit (decode table) moved-state other p (rw at_p next-statements) (rw at_p own))
        | no n ↦ others-fit other same q l n
      ]

  -- it empties the stack
  abbrev ended-roll : List ℕ
  ended-roll = roll_ended table count state roll p

  ended_is : RecordIs ended-roll p ended_record
  ended_is = with_arrival-same roll count p ended_record r.team.rolled r.within

  finishes_so : depth next ≡ 0 → Fit (decode table) moved-state ended-roll count
  finishes_so d =
      all_fit ended-roll (λ q o. with_arrival-other roll p q ended_record o)
      (standing-fits (decode table) next ended-roll count p (λ h. absurd (omega arith)) (ends d ended_is))

  -- it arrives at a collective
  module _ (k : Collective) (e : statement_at (decode table) (top words) ≡ collective k) where
    abbrev arrived-roll : List ℕ
    arrived-roll = roll_arrived table count state roll p k

    arrived-is : RecordIs arrived-roll p (brought_record (decode table) (environment words p count) (top words) k)
    arrived-is =
        subst (RecordIs arrived-roll p) (arrival-brought (decode table) (environment words p count) (top words) k)
        (with_arrival-same roll count p (arrival_of (decode table) (environment words p count) (top words) k) r.team.rolled r.within)

    arrived-rolled : length arrived-roll ≡ arrival_size * count
    arrived-rolled =
        with_arrival-length roll p (arrival_of (decode table) (environment words p count) (top words) k) ∙ r.team.rolled

    arrives_so : Fit (decode table) state arrived-roll count
    unfolding leave_fits
    arrives_so q l =
        elim (ℕ_discrete q p) [
          | yes same ↦
              rw same
              (statements-fit (decode table) state arrived-roll p (statements p r.within)
              (standing-fits (decode table) words arrived-roll count p (λ h. rw e) (waits k stacked.held e arrived-is)))
          | no n ↦
              fits-same (decode table) state roll arrived-roll q
              (with_arrival-other roll p q (arrival_of (decode table) (environment words p count) (top words) k) n)
              ∙ r.fits q l
        ]

    -- the collective takes place
    abbrev met-state : List ℕ
    met-state = completed_state arrived-roll count k state

    abbrev met-roll : List ℕ
    met-roll = released_roll met-state count arrived-roll

    met-words : (q : ℕ) → q < count
        → process_at met-state q ≡ popped (received arrived-roll count k q (process_at state q))
    met-words = completed-at arrived-roll count k state r.team.stated

    met-statements : (q : ℕ) → q < count → Statements (decode table) (process_at met-state q)
    met-statements q l =
        let before = process_at state q in
        let low = stores_low (decode table) (formed table r.team.read.passed) (top words) k e in
        let sized = process_length state count q r.team.stated l in
        rw (met-words q l)
        (each-popped (λ n i. is_statement (decode table) n ≡ true) (received arrived-roll count k q before)
        (received-length arrived-roll count k q before ∙ sized)
        (each-kept (λ n i. is_statement (decode table) n ≡ true) before (received arrived-roll count k q before)
        (received-depth arrived-roll count k q before r.team.few low)
        (λ i. received-entry arrived-roll count k q before i r.team.few low) (statements q l)))

    met-standing : (q : ℕ) → q < count → Standing (decode table) (process_at met-state q) met-roll count q
    met-standing q l =
        let is = released-is met-state arrived-roll count arrived-rolled q l in
        ⊎_elim
        (λ (z : eqb (depth (process_at met-state q)) 0 ≡ true). ends (eqb-true (depth (process_at met-state q)) 0 z) (rw z at is))
        (λ (z : eqb (depth (process_at met-state q)) 0 ≡ false).
        let n = eqb-false (depth (process_at met-state q)) 0 z in
        stands-running (omega arith) (rw z at is))
        (bool_cases (eqb (depth (process_at met-state q)) 0))

    meets_so : (q : ℕ) → q < count → leave_fits (decode table) (process_at met-state q) ≡ true → process_fits (decode table) met-state met-roll q ≡ true
    meets_so q l covered =
        statements-fit (decode table) met-state met-roll q (met-statements q l)
        (standing-fits (decode table) (process_at met-state q) met-roll count q (λ d. covered) (met-standing q l))

  pub leaves : Leaves table count p (step_taken (decode table) state roll count p)
  unfolding completed released_roll
  leaves =
      rw (taken-run (decode table) state roll count p runs)
      (by-step table count state roll p (Unit {0}) (Leaves table count p)
      (record {
        moves = λ h n.
            record {
              stated = moved-stated;
              rolled = r.team.rolled;
              apart = apart;
              left = moves_on n;
              but_leaves = λ q l covered.
                  elim (ℕ_discrete q p) [
                    | yes same ↦ rw same ((moves_on n).own ∙ rw same at covered)
                    | no other ↦ (moves_on n).others q l other
                  ];
            };
        finishes = λ h d.
            record {
              stated = moved-stated;
              rolled = with_arrival-length roll p ended_record ∙ r.team.rolled;
              apart = one_node_not_waiting ended-roll count p r.within
                  (λ w. let z : ◌≡◌ {A = ℕ} 1 2 = cc ended_is.status in omega arith);
              left = finishes_so d;
              but_leaves = λ q l covered. finishes_so d q l;
            };
        arrives = λ h k e parted.
            record {
              stated = r.team.stated;
              rolled = arrived-rolled k e;
              apart = parted;
              left = arrives_so k e;
              but_leaves = λ q l covered. arrives_so k e q l;
            };
        completes = λ h k e meets.
            record {
              stated = completed-length (arrived-roll k e) count k state r.team.stated;
              rolled = each_arrival-length _ count (arrived-roll k e) ∙ arrived-rolled k e;
              apart = released-apart (completed_state (arrived-roll k e) count k state) (arrived-roll k e) count
                  (arrived-rolled k e) r.team.some;
              left = tt;
              but_leaves = meets_so k e;
            };
      })
      tt)

  module _ {result : Stepped} {after rolled : List ℕ} (ran : Gives (step_running (decode table) state roll count p) result after rolled) where
    pub as_taken : Gives (step_taken (decode table) state roll count p) result after rolled
    as_taken = rw (taken-run (decode table) state roll count p runs) ran

    left_of : {s : Stepped} → result ≡ s
        → LeftOf s (decode table) (step_taken (decode table) state roll count p).state (step_taken (decode table) state roll count p).roll count p
    left_of e =
        subst (λ s. LeftOf s (decode table) (step_taken (decode table) state roll count p).state (step_taken (decode table) state roll count p).roll count p)
        (sym as_taken.answered ∙ e) leaves.left

    pub turned : {answer : Answer} → result ≡ Ok answer → Turned table after rolled count p answer.event
    turned e =
        rw (as_taken.left, as_taken.written)
        (record {
          read = r.team.read;
          stated = leaves.stated;
          rolled = leaves.rolled;
          within = r.within;
          left = left_of e;
        })

    pub unrefused : {refusal : Refusal} → result ≡ Err refusal → ⊥
    unrefused e = left_of e

    -- of a table without leaves nothing is left to ask
    pub all_left : has_leave (decode table) ≡ false → count ≡ unfit_in (decode table) after rolled count
    unfolding leave_fits
    all_left none =
        rw (as_taken.left, as_taken.written)
        (sym
        (first-none (process_fits (decode table) (step_taken (decode table) state roll count p).state (step_taken (decode table) state roll count p).roll) count
        (λ q l. leaves.but_leaves q l (rw (no_leave_at (decode table) (formed table r.team.read.passed) none _)))))
