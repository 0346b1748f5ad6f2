-- Serving, turn by turn: whom it chooses, and that state and roll are as single turns in that order leave them.
use mathlib.Core.Bool.{Bool, true, false, cond, not}
use mathlib.Core.List.{List, [], ◌∷◌}
use mathlib.Core.Logic.{inl, inr}
use mathlib.Core.Path.{◌≡◌, refl, ap}
use Prim.Native.Nat.{ℕ, zero, suc, ◌+◌, ◌≤◌, ◌<◌}
use native.Mathlib.Nat.{mod-lt, zero-add}
use native.Mathlib.Omega.{arith}
use lib.Dec.{eqb}
use lib.ListN.{length}
use borrow.Author.Tests.{ltb-true, eqb-true, not-false}
use Rattle.rules.specs.declared.Answer.{Answer}
use Rattle.rules.specs.declared.Event.{Event}
use Rattle.rules.specs.declared.Event.TheVariants.{Moved, Finished, Arrived, Completed, Waiting, Ended}
use Rattle.rules.specs.declared.Refusal.{Refusal}
use Rattle.std.specs.Prelude.{Ok, Err}
use Rattle.rules.specs.Answers.{Verdict, Stepped, Accepted, event_number}
use Rattle.rules.specs.Arrivals.{running, status_at}
use Rattle.rules.specs.Process.{process_at, top}
use Rattle.rules.specs.Run.{Team, turn, after_turn, after_turns, answers}
use Rattle.rules.specs.Scheduling.{place_after, passed_over, some_runs, next_process, Served, stopped_at, if_taken, serving}
use Rattle.rules.specs.Scheduling.{served_by, served, chosen, chosen_by, chosen_in, last_of}
use Rattle.rules.specs.Scheduling.{event_turns, answer_turns, Worked, AllWorked, Stopped, AsSingleTurns, ServedAsSingleTurns, ServesOn}
use Rattle.rules.specs.Step.{processes_in, completed, step_running, step_taken, step_verdict, team_verdict, stepped_by, stepped}
use Rattle.rules.proofs.ChoiceLaws.{first-fails}
use Rattle.rules.proofs.TurnCases.{by-step}
use Rattle.rules.specs.Table.{decode}

-- the next process, where one runs
module _ (roll : List ℕ) (last : ℕ) (some : some_runs roll last ≡ true) where
  pub next-found : passed_over roll (processes_in roll) last < processes_in roll
  next-found = ltb-true (passed_over roll (processes_in roll) last) (processes_in roll) some

  pub next-runs : status_at roll (next_process roll last) ≡ running
  unfolding next_process passed_over
  next-runs =
      eqb-true (status_at roll (next_process roll last)) running
      (not-false (eqb (status_at roll (next_process roll last)) running)
      (first-fails (λ i. not (eqb (status_at roll (place_after (processes_in roll) last i)) running)) (processes_in roll)
      next-found))

  pub next-below : next_process roll last < processes_in roll
  unfolding next_process
  next-below = mod-lt _ (omega (arith, next-found))

-- a turn of a running process that is taken is not idle
busy : (event : Event) → event_number event < 4 → (event ≡ Waiting → ⊥) × (event ≡ Ended → ⊥)
busy event l = ((λ e. omega (arith, ap event_number e)), (λ e. omega (arith, ap event_number e)))

module _ (table state roll : List ℕ) (count p : ℕ) where
  running-worked : Worked (step_running (decode table) state roll count p).answer
  unfolding completed
  running-worked =
      by-step table count state roll p (Unit {0}) (λ outcome. Worked outcome.answer)
      (record {
        moves = λ h n. busy Moved (omega arith);
        finishes = λ h d. busy Finished (omega arith);
        arrives = λ h k e apart. busy (Arrived (top (process_at state p))) (omega arith);
        completes = λ h k e meets. busy (Completed (top (process_at state p))) (omega arith);
      })
      tt

  pub taken-worked : status_at roll p ≡ running → Worked (step_taken (decode table) state roll count p).answer
  unfolding step_taken
  taken-worked e = rw e running-worked

pub not-refused : (s : Stepped) → Worked s → (r : Refusal) → s ≡ Err r → ⊥
not-refused s w r e = rw e at w

-- and it counts as one turn
event-worked : (event : Event) → (event ≡ Waiting → ⊥) → (event ≡ Ended → ⊥) → event_turns event ≡ 1
event-worked Moved w e = refl
event-worked Finished w e = refl
event-worked (Arrived node) w e = refl
event-worked (Completed node) w e = refl
event-worked Waiting w e = absurd (w refl)
event-worked Ended w e = absurd (e refl)

pub worked-counts : (s : Stepped) → Worked s → answer_turns s ≡ 1
worked-counts (Ok a) w = event-worked a.event w.0 w.1
worked-counts (Err r) w = absurd w

module _ (table state roll : List ℕ) (p : ℕ) (runs : status_at roll p ≡ running) where
  by-verdict : (v : Verdict) (a : Answer) → (stepped_by v (decode table) state roll p).answer ≡ Ok a → Worked (stepped_by v (decode table) state roll p).answer
  unfolding stepped_by
  by-verdict (Ok _) a e = taken-worked table state roll (processes_in roll) p runs
  by-verdict (Err r) a e = let z : ◌≡◌ {A = ℕ} 0 1 = cc in absurd (omega arith)

  pub step-worked : (a : Answer) → (stepped table state roll p).answer ≡ Ok a → Worked (stepped table state roll p).answer
  unfolding stepped
  step-worked a e = by-verdict (step_verdict table state roll p) a e

  -- one that is refused has the refusal of its questions
  by-refused : (v : Verdict) (r : Refusal) → (stepped_by v (decode table) state roll p).answer ≡ Err r → v ≡ Err r
  unfolding stepped_by
  by-refused (Ok _) r e = absurd (not-refused _ (taken-worked table state roll (processes_in roll) p runs) r e)
  by-refused (Err s) r e = cc

  step_refusal : (r : Refusal) → (stepped table state roll p).answer ≡ Err r → step_verdict table state roll p ≡ Err r
  unfolding stepped
  step_refusal r e = by-refused (step_verdict table state roll p) r e

-- what holds of a call that stops, and is kept by a turn before it, holds of every call
module _ (P : ℕ → ℕ → ℕ → Team → Served → List ℕ → Type 0) (table : List ℕ) where
  pub record ServingCases : Type 0 where
    pub used : (made last : ℕ) (team : Team) → P zero made last team (stopped_at made last Accepted team) []
    pub none : (turns made last : ℕ) (team : Team) → some_runs team.roll last ≡ false
        → P (suc turns) made last team (stopped_at made last Accepted team) []
    pub refuses : (turns made last : ℕ) (team : Team) (r : Refusal) → some_runs team.roll last ≡ true
        → (turn table team (next_process team.roll last)).answer ≡ Err r
        → P (suc turns) made last team (stopped_at made last (Err r) team) []
    pub takes : (turns made last : ℕ) (team : Team) (a : Answer) → some_runs team.roll last ≡ true
        → (turn table team (next_process team.roll last)).answer ≡ Ok a → (end : Served) (list : List ℕ)
        → P turns (suc made) (next_process team.roll last) (after_turn table team (next_process team.roll last)) end list
        → P (suc turns) made last team end (next_process team.roll last ∷ list)

  on_answer : (Q : Served → List ℕ → Type 0) (s : Stepped) (go_on : Served) (list : List ℕ) (stop : Refusal → Served)
      → ((a : Answer) → s ≡ Ok a → Q go_on list) → ((r : Refusal) → s ≡ Err r → Q (stop r) [])
      → Q (if_taken s go_on stop) (if_taken s list (λ r. []))
  on_answer Q (Ok a) go_on list stop f g = f a refl
  on_answer Q (Err r) go_on list stop f g = g r refl

  on_test : (Q : Served → List ℕ → Type 0) (b : Bool) (x y : Served) (xs : List ℕ)
      → (b ≡ true → Q x xs) → (b ≡ false → Q y []) → Q (cond b x y) (cond b xs [])
  on_test Q true x y xs f g = f refl
  on_test Q false x y xs f g = g refl

  pub by-serving : ServingCases → (turns made last : ℕ) (team : Team)
      → P turns made last team (serving table turns made last team) (chosen table turns last team)
  unfolding serving chosen
  by-serving cases zero made last team = cases.used made last team
  by-serving cases (suc turns) made last team =
      on_test (P (suc turns) made last team) (some_runs team.roll last) _ _ _
      (λ some.
      on_answer (P (suc turns) made last team) (turn table team (next_process team.roll last)).answer _ _ _
      (λ a e.
      cases.takes turns made last team a some e _ _
      (by-serving cases turns (suc made) (next_process team.roll last)
      (after_turn table team (next_process team.roll last))))
      (λ r e. cases.refuses turns made last team r some e))
      (λ none. cases.none turns made last team none)

-- single turns, the count of turns made going on from `before`
record AsTurns (table : List ℕ) (turns before last : ℕ) (team : Team) (end : Served) (list : List ℕ) : Type 0 where
  pub made : end.made ≡ before + length list
  pub within : length list ≤ turns
  pub last-is : end.last ≡ last_of last list
  pub state-is : end.state ≡ (after_turns table team list).state
  pub roll-is : end.roll ≡ (after_turns table team list).roll
  pub worked : AllWorked (answers table team list)

module _ (table : List ℕ) where
  as_stopped : (turns before last : ℕ) (answer : Verdict) (team : Team)
      → AsTurns table turns before last team (stopped_at before last answer team) []
  unfolding last_of after_turns answers
  as_stopped turns before last answer team =
      record { made = omega arith; within = omega arith; last-is = refl; state-is = refl; roll-is = refl; worked = tt }

  as_taken : (turns before last : ℕ) (team : Team) (a : Answer) → some_runs team.roll last ≡ true
      → (turn table team (next_process team.roll last)).answer ≡ Ok a → (end : Served) (list : List ℕ)
      → AsTurns table turns (suc before) (next_process team.roll last)
      (after_turn table team (next_process team.roll last)) end list
      → AsTurns table (suc turns) before last team end (next_process team.roll last ∷ list)
  unfolding last_of after_turns answers
  as_taken turns before last team a some e end list rest =
      record {
        made = omega (arith, rest.made);
        within = omega (arith, rest.within);
        last-is = rest.last-is;
        state-is = rest.state-is;
        roll-is = rest.roll-is;
        worked = (
          step-worked table team.state team.roll (next_process team.roll last) (next-runs team.roll last some) a e,
          rest.worked,
        );
      }

  as_turns : (turns before last : ℕ) (team : Team)
      → AsTurns table turns before last team (serving table turns before last team) (chosen table turns last team)
  as_turns =
      by-serving (AsTurns table) table
      (record {
        used = λ made last team. as_stopped 0 made last Accepted team;
        none = λ turns made last team e. as_stopped (suc turns) made last Accepted team;
        refuses = λ turns made last team r some e. as_stopped (suc turns) made last (Err r) team;
        takes = as_taken;
      })

  as_single : (turns last : ℕ) (team : Team) (end : Served) (list : List ℕ)
      → AsTurns table turns 0 last team end list → AsSingleTurns table team last turns list end
  as_single turns last team end list all =
      record {
        made = omega (arith, all.made);
        within = all.within;
        last-is = all.last-is;
        state-is = all.state-is;
        roll-is = all.roll-is;
        worked = all.worked;
      }

  as_called : (v : Verdict) (team : Team) (last turns : ℕ)
      → AsSingleTurns table team last turns (chosen_by v table team last turns) (served_by v table team last turns)
  unfolding chosen_by served_by
  as_called (Ok _) team last turns = as_single turns last team _ _ (as_turns turns 0 last team)
  as_called (Err r) team last turns = as_single turns last team _ _ (as_stopped turns 0 last (Err r) team)

pub served_as_single_turns : ServedAsSingleTurns
unfolding served chosen_in
served_as_single_turns table team last turns =
    as_called table (team_verdict table team.state team.roll last) team last turns

-- why serving stopped, the count of turns made going on from `before`
module _ (table : List ℕ) where
  abbrev StopsSo : ℕ → ℕ → ℕ → Team → Served → List ℕ → Type 0
  StopsSo turns before last team end list = Stopped table (before + turns) end

  stops-later : (turns before : ℕ) (end : Served) → Stopped table (suc before + turns) end → Stopped table (before + suc turns) end
  stops-later turns before end (inl used) = inl (used.0, omega (arith, used.1))
  stops-later turns before end (inr other) = inr other

  stops_so : (turns before last : ℕ) (team : Team) → Stopped table (before + turns) (serving table turns before last team)
  stops_so =
      by-serving StopsSo table
      (record {
        used = λ made last team. inl (refl, omega arith);
        none = λ turns made last team e. inr (inl (refl, e));
        refuses = λ turns made last team r some e.
            inr
            (inr (
              r,
              some,
              refl,
              step_refusal table team.state team.roll (next_process team.roll last)
                  (next-runs team.roll last some) r e,
            ));
        takes = λ turns made last team a some e end list rest. stops-later turns made end rest;
      })

pub serves_on : ServesOn
unfolding served served_by
serves_on table team last turns v = rw v (rw (zero-add turns) at (stops_so table turns 0 last team))
