-- From the questions that the code has put to the answer of a start or a step.
use mathlib.Core.Bool.{Bool, true, false, cond, ◌&&◌}
use mathlib.Core.List.{List}
use mathlib.Core.Path.{◌≡◌, refl, sym, ◌∙◌, ap}
use Prim.Native.Nat.{ℕ, ◌*◌}
use native.Mathlib.Omega.{arith}
use lib.Dec.{leb, ltb, eqb}
use lib.ListN.{length}
use borrow.Author.Tests.{leb-true, ltb-true, eqb-true, not-true}
use Rattle.rules.specs.declared.Refusal.{Refusal}
use Rattle.std.specs.Prelude.{Err}
use Rattle.rules.specs.Answers.{Verdict, Accepted, ◌then◌, ask_each}
use Rattle.rules.specs.Arrivals.{arrival_size, all_at_one_node}
use Rattle.rules.specs.Process.{process_words, most_processes}
use Rattle.rules.specs.Start.{question18, question19, question20, question21}
use Rattle.rules.specs.Start.{start_size, start_verdict, start_state, start_roll, started, started_by}
use Rattle.rules.specs.Step.{question22, question23, processes_in, process_fits, place_lacked}
use Rattle.rules.specs.Step.{team_verdict, step_verdict, step_taken, stepped_by, stepped}
use Rattle.rules.specs.WellFormed.{well_formed}
use Rattle.rules.proofs.AnswerLaws.{both_left, both_right, then_first, then_rest, then_assoc, ask_holds, each-passed}
use Rattle.table.specs.Header.{Passing}
use Rattle.machine.specs.Layout.{Startable, Starts}
use Rattle.preconditions.specs.Asked.{GivenTeam}
use Rattle.machine.specs.Outcomes.{Asked, Ready, Gives}
use Rattle.rules.specs.Table.{Program, decode}

-- a question that refuses decides, and one that holds leaves the answer to the next
after_refusal : {a : Verdict} (b : Verdict) {r : Refusal} → a ≡ Err r → (a then b) ≡ Err r
after_refusal b e = rw e

after-accepted : {a : Verdict} (b : Verdict) → a ≡ Accepted → (a then b) ≡ b
after-accepted b e = rw e

holds_so : (holds : Bool) (r : Refusal) → cond holds Accepted (Err r) ≡ Accepted → holds ≡ true
holds_so true r e = refl
holds_so false r e = let z : ◌≡◌ {A = ℕ} 0 1 = cc in absurd (omega arith)

abbrev pub sizes : List ℕ → List ℕ → Verdict
sizes state roll = question21 (processes_in roll) roll then question20 (processes_in roll) state

abbrev pub standing : Program → List ℕ → List ℕ → ℕ → ℕ → Verdict
standing program state roll count p = question22 count p then question23 program state roll count

module _ (table state roll : List ℕ) (p : ℕ) where
  in_parts : team_verdict table state roll p
      ≡ (well_formed table then (sizes state roll then standing (decode table) state roll (processes_in roll) p))
  unfolding team_verdict
  in_parts =
      ap (λ v. well_formed table then v)
      (sym
      (then_assoc (question21 (processes_in roll) roll) (question20 (processes_in roll) state)
      (standing (decode table) state roll (processes_in roll) p)))

  pub unformed : {r : Refusal} → well_formed table ≡ Err r → team_verdict table state roll p ≡ Err r
  unformed e = in_parts ∙ after_refusal _ e

  module _ (formed : well_formed table ≡ Accepted) where
    pub unsized : {r : Refusal} → sizes state roll ≡ Err r → team_verdict table state roll p ≡ Err r
    unsized e = in_parts ∙ after-accepted _ formed ∙ after_refusal _ e

    module _ (sized : sizes state roll ≡ Accepted) where
      pub left_over : team_verdict table state roll p ≡ standing (decode table) state roll (processes_in roll) p
      left_over = in_parts ∙ after-accepted _ formed ∙ after-accepted _ sized

      question_21 : (eqb (length roll) (arrival_size * processes_in roll) && leb 1 (processes_in roll) && leb (processes_in roll) most_processes) ≡ true
      question_21 = ask_holds 21 _ (then_first (question21 (processes_in roll) roll) (question20 (processes_in roll) state) sized)

      pub team_of_lem : Passing well_formed table → GivenTeam table state roll (processes_in roll)
      team_of_lem r =
          let n = processes_in roll in
          let front = both_left (eqb (length roll) (arrival_size * n) && leb 1 n) (leb n most_processes) question_21 in
          record {
            read = r;
            some = leb-true 1 n (both_right (eqb (length roll) (arrival_size * n)) (leb 1 n) front);
            few = leb-true n most_processes (both_right (eqb (length roll) (arrival_size * n) && leb 1 n) (leb n most_processes) question_21);
            stated = eqb-true (length state) (process_words * n)
                (ask_holds 20 _ (then_rest (question21 n roll) (question20 n state) sized));
            rolled = eqb-true (length roll) (arrival_size * n) (both_left (eqb (length roll) (arrival_size * n)) (leb 1 n) front);
          }

  -- the questions up to 23 hold
  module _ (holds : team_verdict table state roll p ≡ Accepted) where
    pub asked-formed : well_formed table ≡ Accepted
    asked-formed = then_first (well_formed table) _ (sym in_parts ∙ holds)

    after_form : (sizes state roll then standing (decode table) state roll (processes_in roll) p) ≡ Accepted
    after_form = then_rest (well_formed table) _ (sym in_parts ∙ holds)

    after-sizes : standing (decode table) state roll (processes_in roll) p ≡ Accepted
    after-sizes = then_rest (sizes state roll) _ after_form

    pub asked_of : Asked table state roll (processes_in roll) p
    asked_of =
        let last = then_rest (question22 (processes_in roll) p) _ after-sizes in
        let each = ask_each 23 (processes_in roll) (process_fits (decode table) state roll) in
        record {
          team = team_of_lem asked-formed (then_first (sizes state roll) _ after_form)
              (record { passed = asked-formed });
          within = ltb-true p (processes_in roll)
              (holds_so (ltb p (processes_in roll)) (record { number = 22; place = p })
              (then_first (question22 (processes_in roll) p) _ after-sizes));
          fits = each-passed 23 (processes_in roll) (process_fits (decode table) state roll) (then_first each _ last);
          apart = not-true (all_at_one_node roll (processes_in roll)) (ask_holds 23 _ (then_rest each _ last));
        }

  -- a step by its questions
  denied : {r : Refusal} → step_verdict table state roll p ≡ Err r
      → Gives (stepped table state roll p) (Err r) state roll
  unfolding stepped stepped_by
  denied e = rw e (record { answered = refl; left = refl; written = refl })

  pub denied-team : {r : Refusal} → team_verdict table state roll p ≡ Err r
      → Gives (stepped table state roll p) (Err r) state roll
  unfolding step_verdict
  denied-team e = denied (after_refusal _ e)

  module _ (holds : team_verdict table state roll p ≡ Accepted) where
    pub denied-place : place_lacked (decode table) state roll (processes_in roll) p ≡ true
        → Gives (stepped table state roll p) (Err (record { number = 24; place = p })) state roll
    unfolding step_verdict
    denied-place e = denied (rw (holds, e))

    pub taken_step : place_lacked (decode table) state roll (processes_in roll) p ≡ false
        → stepped table state roll p ≡ step_taken (decode table) state roll (processes_in roll) p
    unfolding stepped stepped_by step_verdict
    taken_step e = rw (holds, e)

-- questions up to 23 hold, and 24 does
pub ready_of : {table : List ℕ} {state roll : List ℕ} {count p : ℕ} → Asked table state roll count p
    → place_lacked (decode table) state roll count p ≡ false → Ready table state roll count p
ready_of asked e = record { team = asked.team; within = asked.within; fits = asked.fits; place = e }

module _ (table : List ℕ) (count : ℕ) (words state roll : List ℕ) where
  abbrev pub asked : Verdict
  asked = question18 count then question19 (decode table) count words then question20 count state then question21 count roll

  refused-start : {r : Refusal} → start_verdict table count words state roll ≡ Err r
      → Starts (started table count words state roll) (Err r) state roll
  unfolding started started_by
  refused-start e = rw e (record { answered = refl; left = refl; written = refl })

  pub refused_form : {r : Refusal} → well_formed table ≡ Err r
      → Starts (started table count words state roll) (Err r) state roll
  unfolding start_verdict
  refused_form e = refused-start (after_refusal asked e)

  module _ (formed : well_formed table ≡ Accepted) where
    pub refused-asked : {r : Refusal} → asked ≡ Err r
        → Starts (started table count words state roll) (Err r) state roll
    unfolding start_verdict
    refused-asked e = refused-start (after-accepted asked formed ∙ e)

    module _ (holds : asked ≡ Accepted) where
      after18 : (question19 (decode table) count words then question20 count state then question21 count roll) ≡ Accepted
      after18 = then_rest (question18 count) _ holds

      after19 : (question20 count state then question21 count roll) ≡ Accepted
      after19 = then_rest (question19 (decode table) count words) _ after18

      pub started-rolled : length roll ≡ arrival_size * count
      started-rolled =
          eqb-true (length roll) (arrival_size * count)
          (both_left (eqb (length roll) (arrival_size * count)) (leb 1 count)
          (both_left (eqb (length roll) (arrival_size * count) && leb 1 count) (leb count most_processes)
          (ask_holds 21 _ (then_rest (question20 count state) (question21 count roll) after19))))

      pub startable : Startable table count words state
      startable =
          let few = ask_holds 18 _ (then_first (question18 count) _ holds) in
          record {
            well-formed = formed;
            some = leb-true 1 count (both_left (leb 1 count) (leb count most_processes) few);
            few = leb-true count most_processes (both_right (leb 1 count) (leb count most_processes) few);
            worded = eqb-true (length words) (start_size (decode table) * count)
                (ask_holds 19 _ (then_first (question19 (decode table) count words) _ after18));
            stated = eqb-true (length state) (process_words * count) (ask_holds 20 _ (then_first (question20 count state) _ after19));
          }

      pub taken_start : {after rolled : List ℕ} → after ≡ start_state (decode table) count words state
          → rolled ≡ start_roll count roll
          → Starts (started table count words state roll) Accepted after rolled
      unfolding started started_by start_verdict
      taken_start s l =
          rw (after-accepted asked formed ∙ holds) (record { answered = refl; left = s; written = l })
