-- A start, a step and a call that serves are calls on a roll of records: `started`, `stepped` and `served` keep the words those of
-- records, and refuse a roll too long for any team.
use mathlib.Core.Bool.{true, false, cond}
use mathlib.Core.List.{List, [], ◌∷◌}
use mathlib.Core.Logic.{⊎_elim}
use mathlib.Core.Path.{◌≡◌, refl, ap, sym, ◌∙◌, subst}
use Prim.Native.Nat.{ℕ, ◌*◌, ◌<◌}
use lib.Dec.{eqb}
use lib.ListN.{length}
use Rattle.rules.specs.declared.Refusal.{Refusal}
use Rattle.std.specs.Prelude.{Ok, Err}
use Rattle.rules.specs.Answers.{Verdict, Stepped, ◌then◌, refused}
use Rattle.rules.specs.Arrivals.{arrival_size, running, waiting, running_record, ended_record, with_arrival, status_at, all_at_one_node}
use Rattle.rules.specs.Collective.{arrival_of, completed_state, released_roll}
use Rattle.rules.specs.Evaluation.{Environment}
use Rattle.rules.specs.Process.{most_processes, environment, process_at, depth, top, advanced}
use Rattle.rules.proofs.ChoiceLaws.{bool_cases}
use Rattle.rules.specs.Start.{question18, question19, question20, start_verdict, start_roll, started_by, Started, started}
use Rattle.rules.specs.Step.{Outcome, processes_in, question22, question23, question24, team_verdict, step_verdict, moved, completed, arrived_at, step_running, step_taken, stepped_by, stepped}
use Rattle.rules.specs.Table.{Program, decode, Collective, statement_at}
use Rattle.rules.specs.WellFormed.{well_formed}
use Rattle.rules.specs.Run.{Team, after_turn, after_turns}
use Rattle.rules.specs.Scheduling.{chosen_in, Served, served_by, served}
use Rattle.rules.proofs.ServingLaws.{served_as_single_turns}
use Rattle.rules.proofs.TurnCases.{on_collective_lem}
use Rattle.machine.specs.Layout.{Starts}
use Rattle.machine.specs.Outcomes.{Gives}
use Rattle.scheduler.specs.declared.Service.{Service}
use Rattle.scheduler.specs.Serving.{Serves, team_of}
use Rattle.records.proofs.Recorded.{Recorded, recorded_with, recorded-each, long_21, then_refused, Call}

-- ---- a start
module _ (table : List ℕ) (count : ℕ) (words state : List ℕ) where
  -- the refusal of every roll that is too long
  long-start : (r : Refusal) × ((well_formed table then question18 count then question19 (decode table) count words then question20 count state then refused 21 0) ≡ Err r)
  long-start =
      let last : (r : Refusal) × (refused 21 0 ≡ Err r) = (record { number = 21; place = 0 }, refl) in
      then_refused (well_formed table) _ (then_refused (question18 count) _ (then_refused (question19 (decode table) count words) _ (then_refused (question20 count state) _ last)))

  abbrev refused_start : List ℕ → Started
  refused_start roll = record { answer = Err long-start.0; state = state; roll = roll }

  long-started : (roll : List ℕ) → arrival_size * most_processes < length roll → started table count words state roll ≡ refused_start roll
  unfolding started started_by start_verdict
  long-started roll l =
      ap (λ (v : Verdict). started_by (well_formed table then question18 count then question19 (decode table) count words then question20 count state then v) (decode table) count words state roll) (long_21 count roll l)
      ∙ ap (λ (v : Verdict). started_by v (decode table) count words state roll) long-start.1

  by-verdict : (v : Verdict) (n : ℕ) (roll : List ℕ) → Recorded n roll → Recorded n (started_by v (decode table) count words state roll).roll
  unfolding started_by start_roll
  by-verdict (Ok _) n roll h = recorded-each n roll (λ p. running_record) count h
  by-verdict (Err r) n roll h = h

  start-recorded : (n : ℕ) (roll : List ℕ) → Recorded n roll → Recorded n (started table count words state roll).roll
  unfolding started
  start-recorded n roll h = by-verdict (start_verdict table count words state roll) n roll h

  pub start-call : (answer : Verdict) (left : List ℕ) → Call (λ before after. Starts (started table count words state before) answer left after)
  start-call answer left = record {
    long = λ before after l said.
        let at : Starts (refused_start before) answer left after = subst (λ o. Starts o answer left after) (long-started before l) said in (
          at.written,
          λ other m. subst (λ o. Starts o answer left other) (sym (long-started other m))
              (record { answered = at.answered; left = at.left; written = refl }),
        );
    recorded = λ n before after h said. subst (Recorded n) (sym said.written) (start-recorded n before h);
  }

-- ---- a step
module _ (table state : List ℕ) (p : ℕ) where
  long-step : (r : Refusal) × ((well_formed table then refused 21 0) ≡ Err r)
  long-step =
      let last : (r : Refusal) × (refused 21 0 ≡ Err r) = (record { number = 21; place = 0 }, refl) in
      then_refused (well_formed table) _ last

  long-team : (roll : List ℕ) → arrival_size * most_processes < length roll → team_verdict table state roll p ≡ Err long-step.0
  unfolding team_verdict
  long-team roll l =
      ap (λ (v : Verdict). well_formed table then v then question20 (processes_in roll) state then question22 (processes_in roll) p
      then question23 (decode table) state roll (processes_in roll)) (long_21 (processes_in roll) roll l)
      ∙ long-step.1

  abbrev refused_step : List ℕ → Outcome
  refused_step roll = record { answer = Err long-step.0; state = state; roll = roll }

  long-stepped : (roll : List ℕ) → arrival_size * most_processes < length roll → stepped table state roll p ≡ refused_step roll
  unfolding stepped stepped_by step_verdict
  long-stepped roll l =
      ap (λ (v : Verdict). stepped_by (v then question24 (decode table) state roll (processes_in roll) p) (decode table) state roll p) (long-team roll l)

module _ (n : ℕ) where
  -- an outcome that leaves the words of n records
  abbrev Keeps : Outcome → Type 0
  Keeps o = Recorded n o.roll

  moved-recorded : (state roll : List ℕ) (count p : ℕ) (words : List ℕ) → Recorded n roll → Keeps (moved state roll count p words)
  unfolding moved
  moved-recorded state roll count p words h =
      ⊎_elim (λ (e : eqb (depth words) 0 ≡ true). simp e (recorded_with n roll p ended_record h)) (λ (e : eqb (depth words) 0 ≡ false). simp e h) (bool_cases (eqb (depth words) 0))

  arrived-recorded : (state roll : List ℕ) (count node : ℕ) (meeting : Collective) → Recorded n roll → Keeps (arrived_at state roll count node meeting)
  unfolding arrived_at completed released_roll
  arrived-recorded state roll count node meeting h =
      let after : List ℕ = completed_state roll count meeting state in
      ⊎_elim (λ (e : all_at_one_node roll count ≡ true). simp e (recorded-each n roll (λ p. cond (eqb (depth (process_at after p)) 0) ended_record running_record) count h))
      (λ (e : all_at_one_node roll count ≡ false). simp e h) (bool_cases (all_at_one_node roll count))

  running-recorded : (program : Program) (state roll : List ℕ) (count p : ℕ) → Recorded n roll → Keeps (step_running program state roll count p)
  unfolding step_running
  running-recorded program state roll count p h =
      let words : List ℕ = process_at state p in
      let env : Environment = environment words p count in
      on_collective_lem Keeps (statement_at program (top words)) (λ meeting. arrived_at state (with_arrival roll p (arrival_of program env (top words) meeting)) count (top words) meeting)
      (moved state roll count p (advanced program env words (statement_at program (top words))))
      (λ meeting is. arrived-recorded state (with_arrival roll p (arrival_of program env (top words) meeting)) count (top words) meeting (recorded_with n roll p (arrival_of program env (top words) meeting) h))
      (λ alone. moved-recorded state roll count p (advanced program env words (statement_at program (top words))) h)

  taken-recorded : (program : Program) (state roll : List ℕ) (count p : ℕ) → Recorded n roll → Keeps (step_taken program state roll count p)
  unfolding step_taken
  taken-recorded program state roll count p h =
      ⊎_elim (λ (e : eqb (status_at roll p) running ≡ true). simp e (running-recorded program state roll count p h))
      (λ (e : eqb (status_at roll p) running ≡ false).
      ⊎_elim (λ (f : eqb (status_at roll p) waiting ≡ true). simp (e, f) h) (λ (f : eqb (status_at roll p) waiting ≡ false). simp (e, f) h) (bool_cases (eqb (status_at roll p) waiting)))
      (bool_cases (eqb (status_at roll p) running))

  by-step_verdict : (v : Verdict) (program : Program) (state roll : List ℕ) (p : ℕ) → Recorded n roll → Keeps (stepped_by v program state roll p)
  unfolding stepped_by
  by-step_verdict (Ok _) program state roll p h = taken-recorded program state roll (processes_in roll) p h
  by-step_verdict (Err r) program state roll p h = h

  step-recorded : (table state roll : List ℕ) (p : ℕ) → Recorded n roll → Keeps (stepped table state roll p)
  unfolding stepped
  step-recorded table state roll p h = by-step_verdict (step_verdict table state roll p) (decode table) state roll p h

pub step_call : (table state : List ℕ) (p : ℕ) (answer : Stepped) (left : List ℕ)
    → Call (λ before after. Gives (stepped table state before p) answer left after)
step_call table state p answer left = record {
  long = λ before after l said.
      let at : Gives (refused_step table state p before) answer left after = subst (λ o. Gives o answer left after) (long-stepped table state p before l) said in (
        at.written,
        λ other m. subst (λ o. Gives o answer left other) (sym (long-stepped table state p other m))
            (record { answered = at.answered; left = at.left; written = refl }),
      );
  recorded = λ n before after h said. subst (Recorded n) (sym said.written) (step-recorded n table state before p h);
}

-- ---- a call that serves
module _ (table : List ℕ) where
  turns-recorded : (n : ℕ) (turns : List ℕ) (team : Team) → Recorded n team.roll → Recorded n (after_turns table team turns).roll
  unfolding after_turns
  turns-recorded n [] team h = h
  turns-recorded n (p ∷ turns) team h = turns-recorded n turns (after_turn table team p) (step-recorded n table team.state team.roll p h)

  module _ (state : List ℕ) (last turns : ℕ) where
    abbrev refused_serving : List ℕ → Served
    refused_serving roll = record { made = 0; last = last; answer = Err (long-step table state last).0; state = state; roll = roll }

    long-served : (roll : List ℕ) → arrival_size * most_processes < length roll → served table state roll last turns ≡ refused_serving roll
    unfolding served served_by
    long-served roll l = ap (λ (v : Verdict). served_by v table (team_of state roll) last turns) (long-team table state last roll l)

    pub serve-call : (service : Service) (left : List ℕ) → Call (λ before after. Serves (served table state before last turns) service left after)
    serve-call service left = record {
      long = λ before after l said.
          let at : Serves (refused_serving before) service left after = subst (λ o. Serves o service left after) (long-served before l) said in (
            at.written,
            λ other m. subst (λ o. Serves o service left other) (sym (long-served other m))
                (record { made = at.made; last = at.last; answered = at.answered; left = at.left; written = refl }),
          );
      recorded = λ n before after h said.
          let team : Team = team_of state before in
          subst (Recorded n) (sym (said.written ∙ (served_as_single_turns table team last turns).roll-is))
          (turns-recorded n (chosen_in table team last turns) team h);
    }
