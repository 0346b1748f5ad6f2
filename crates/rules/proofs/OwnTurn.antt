-- A turn of a running process, in two parts: it changes its own words and its own record, as its own words say; and then, if
-- all wait at one node, the collective takes place. Two running processes' turns commute.
use mathlib.Core.Bool.{true, false, cond}
use mathlib.Core.List.{List, [], ◌∷◌}
use mathlib.Core.Logic.{◌≢◌}
use mathlib.Core.Path.{◌≡◌, refl, sym, ◌∙◌, ap, subst}
use Prim.Native.Nat.{ℕ, ◌<◌}
use native.Mathlib.Decide.{dec_lt, ℕ_discrete}
use native.Mathlib.Omega.{arith}
use lib.Dec.{eqb}
use lib.ListN.{length}
use borrow.Author.Tests.{eq-eqb, ne_eqb}
use Rattle.rules.specs.declared.Arrival.{Arrival}
use Rattle.rules.specs.Answers.{Stepped}
use Rattle.rules.specs.Arrivals.{running, waiting, status_number, running_record, ended_record}
use Rattle.rules.specs.Arrivals.{status_at, arrival_node, with_arrival, all_at_one_node}
use Rattle.rules.specs.Collective.{arrival_of, completed_state, released_roll}
use Rattle.rules.specs.Process.{process_words, process_at, with_process, environment, depth, top, advanced}
use Rattle.rules.specs.Run.{Team, turn, after_turn, answer_nodes}
use Rattle.rules.specs.Scheduling.{answer_turns}
use Rattle.rules.specs.Step.{Outcome, completed, step_running, step_taken}
use Rattle.rules.specs.Table.{decode, Statement, Collective, collective, statement_at, on_collective}
use Rattle.rules.proofs.ArrivalLaws.{with_arrival-same, with_arrival-other}
use Rattle.rules.proofs.Completion.{at-node}
use Rattle.rules.proofs.ProcessLaws.{with_process-kept, with_process-other}
use Rattle.rules.proofs.SoundRun.{SoundTeam, sound-turn}
use Rattle.rules.proofs.StackLaws.{advanced-length}
use Rattle.rules.proofs.Standing.{Standing, runs, waits, ends}
use Rattle.rules.proofs.Stands.{Stands, sized, only_22}
use Rattle.rules.proofs.StatusLaws.{one_node_not_waiting}
use Rattle.rules.proofs.TurnCases.{Alone, on_other, Running, StepCases, roll_arrived, by-statement, by_turn}
use Rattle.rules.proofs.VerdictLaws.{step-taken}
use Rattle.rules.proofs.WholeLaws.{with_arrival-kept, with_process-swapped, with_arrival-swapped}

-- what a turn adds to a process's history: the collectives that it arrived at, and 1 if it was not idle
pub record Work : Type 0 where
  pub nodes : List ℕ
  pub turns : ℕ

abbrev pub work : Stepped → Work
work answer = record { nodes = answer_nodes answer; turns = answer_turns answer }

abbrev pub no_work : Work
no_work = record { nodes = []; turns = 0 }

abbrev team_of : Outcome → Team
team_of outcome = record { state = outcome.state; roll = outcome.roll }

-- a turn that changes and adds nothing
pub record Idle (team : Team) (outcome : Outcome) : Type 0 where
  pub same : team_of outcome ≡ team
  pub no-work : work outcome.answer ≡ no_work

module _ (table : List ℕ) (count : ℕ) where
  -- a running process's next words and its next record, by its own words
  unfoldable own_words : List ℕ → ℕ → List ℕ
  own_words words p = advanced (decode table) (environment words p count) words (statement_at (decode table) (top words))

  unfoldable own_record : List ℕ → ℕ → Arrival
  own_record words p =
      on_collective (statement_at (decode table) (top words)) (arrival_of (decode table) (environment words p count) (top words))
      (cond (eqb (depth (own_words words p)) 0) ended_record running_record)

  unfoldable own_work : List ℕ → Work
  own_work words =
      record { nodes = on_collective (statement_at (decode table) (top words)) (λ k. top words ∷ []) []; turns = 1 }

  unfoldable own : Team → ℕ → Team
  own team p =
      record {
        state = with_process team.state p (own_words (process_at team.state p) p);
        roll = with_arrival team.roll p (own_record (process_at team.state p) p);
      }

  -- the collective takes place, if all wait at one node
  abbrev met : Team → Collective → Team
  met team k =
      record {
        state = completed_state team.roll count k team.state;
        roll = released_roll (completed_state team.roll count k team.state) count team.roll;
      }

  unfoldable settled : Team → Team
  settled team =
      cond (all_at_one_node team.roll count)
      (on_collective (statement_at (decode table) (arrival_node team.roll 0)) (met team) team)
      team

  settled-apart : (team : Team) → all_at_one_node team.roll count ≡ false → settled team ≡ team
  unfolding settled
  settled-apart team e = simp e

  settled-met : (team : Team) (k : Collective) → all_at_one_node team.roll count ≡ true
      → statement_at (decode table) (arrival_node team.roll 0) ≡ collective k → settled team ≡ met team k
  unfolding settled
  settled-met team k e f = simp (e, f)

  -- a process of the team that runs
  pub record Runs (team : Team) (p : ℕ) : Type 0 where
    pub below : p < count
    pub status : status_at team.roll p ≡ running

  own-sized : (team : Team) → SoundTeam table count team → (p : ℕ) → p < count
      → length (own_words (process_at team.state p) p) ≡ process_words
  unfolding own_words
  own-sized team now p l =
      advanced-length (decode table) (environment (process_at team.state p) p count) (process_at team.state p)
      (statement_at (decode table) (top (process_at team.state p)))
      ∙ sized table count team.state team.roll now.stands p l

  running-standing : (state roll : List ℕ) (p : ℕ) → p < count → status_at roll p ≡ running
      → Standing (decode table) (process_at state p) roll count p → Running table count state roll p
  running-standing state roll p l e (runs d is) = record { below = l; deep = d; is = is }
  running-standing state roll p l e (waits k d f is) =
      let z : ◌≡◌ {A = ℕ} 0 1 = cc is.status in absurd (omega arith)
  running-standing state roll p l e (ends d is) =
      let z : ◌≡◌ {A = ℕ} 0 2 = cc is.status in absurd (omega arith)

  -- a turn of a running process: its own part, then the collective, and what it adds to p's history
  module _ (team : Team) (now : Stands table count team.state team.roll) (p : ℕ)
      (r : Running table count team.state team.roll p) where
    abbrev words : List ℕ
    words = process_at team.state p

    abbrev statement : Statement
    statement = statement_at (decode table) (top words)

    record Own (outcome : Outcome) : Type 0 where
      after : team_of outcome ≡ settled (own team p)
      adds : work outcome.answer ≡ own_work words

    -- nobody waits who has just moved or finished
    own_alone : Alone statement → (arrival : Arrival)
        → cond (eqb (depth (own_words words p)) 0) ended_record running_record ≡ arrival
        → status_number arrival.status ≢ waiting
        → settled (own team p)
        ≡ record { state = with_process team.state p (own_words words p); roll = with_arrival team.roll p arrival }
    unfolding own own_record
    own_alone alone arrival e n =
        ap (λ x. settled (record { state = with_process team.state p (own_words words p); roll = with_arrival team.roll p x }))
        (on_other statement (arrival_of (decode table) (environment words p count) (top words)) _ alone ∙ e)
        ∙ settled-apart _
        (one_node_not_waiting (with_arrival team.roll p arrival) count p r.below
        (λ w. n (sym (with_arrival-same team.roll count p arrival now.team.roll-sized r.below).status ∙ w)))

    own-arrived : (k : Collective) → statement ≡ collective k
        → own team p ≡ record { state = team.state; roll = roll_arrived table count team.state team.roll p k }
    unfolding own own_record own_words advanced
    own-arrived k e = rw (e, with_process-kept team.state p)

    own_cases : StepCases table count team.state team.roll p (Unit {0}) (Alone statement) Own
    unfolding completed own_words own_work
    own_cases =
        record {
          moves = λ alone d.
              record {
                after = sym
                    (own_alone alone running_record (simp (ne_eqb (depth (own_words words p)) 0 d)) (λ z. omega arith)
                    ∙ ap (λ x. record { state = with_process team.state p (own_words words p); roll = x })
                    (with_arrival-kept team.roll count p running_record now.team.roll-sized r.below r.is));
                adds = rw (on_other statement (λ k. top words ∷ []) [] alone);
              };
          finishes = λ alone d.
              record {
                after = sym (own_alone alone ended_record (simp (eq-eqb (depth (own_words words p)) 0 d)) (λ z. omega arith));
                adds = rw (on_other statement (λ k. top words ∷ []) [] alone);
              };
          arrives = λ h k e apart.
              record { after = sym (ap settled (own-arrived k e) ∙ settled-apart _ apart); adds = rw e };
          completes = λ h k e meets.
              let node = at-node table count team.state team.roll now p r.below r.deep k e meets 0 now.team.count_low in
              record {
                after = sym (ap settled (own-arrived k e) ∙ settled-met _ k meets (ap (statement_at (decode table)) node ∙ e));
                adds = rw e;
              };
        }

  -- a turn of a running process
  module _ (team : Team) (now : SoundTeam table count team) (p : ℕ) (r : Runs team p) where
    runs-now : Running table count team.state team.roll p
    runs-now =
        running-standing team.state team.roll p r.below r.status (now.stands.standing p r.below)

    turn-running : turn table team p ≡ step_running (decode table) team.state team.roll count p
    unfolding step_taken
    turn-running =
        step-taken table team.state team.roll count p now.stands.team.roll-sized
        (only_22 table count team.state team.roll now.stands now.apart p) r.below
        ∙ simp r.status

    turned : Own team now.stands p runs-now (turn table team p)
    turned =
        subst (Own team now.stands p runs-now) (sym turn-running)
        (by-statement table count team.state team.roll p (Unit {0}) _ (Own team now.stands p runs-now)
        (own_cases team now.stands p runs-now) (λ alone. alone) tt)

    -- the words and the record of another process are kept by p's own part
    module _ (q : ℕ) (n : q ≢ p) where
      own-words : q < count → process_at (own team p).state q ≡ process_at team.state q
      unfolding own
      own-words m =
          with_process-other team.state count p (own_words (process_at team.state p) p) q
          now.stands.team.state-sized (own-sized team now p r.below) r.below m n

      own-status : status_at (own team p).roll q ≡ status_at team.roll q
      unfolding own
      own-status = (with_arrival-other team.roll p q (own_record (process_at team.state p) p) n).status

      -- while another runs, that is all
      own_runs : Runs team q → Runs (own team p) q
      own_runs o = record { below = o.below; status = own-status ∙ o.status }

      turn_alone : Runs team q → after_turn table team p ≡ own team p
      turn_alone o =
          turned.after
          ∙ settled-apart (own team p)
          (one_node_not_waiting (own team p).roll count q o.below
          (λ w. let z : ◌≡◌ {A = ℕ} 0 1 = cc (own_runs o).status in omega arith))

      pub still_runs : Runs team q → Runs (after_turn table team p) q
      still_runs o = subst (λ t. Runs t q) (sym (turn_alone o)) (own_runs o)

  -- two running processes
  module _ (team : Team) (now : SoundTeam table count team) (p q : ℕ) (r : Runs team p) (o : Runs team q) (n : p ≢ q) where
    abbrev back : q ≢ p
    back e = n (sym e)

    -- p's turn, while q runs
    alone : after_turn table team p ≡ own team p
    alone = turn_alone team now p r q back o

    good_own : SoundTeam table count (own team p)
    good_own = subst (SoundTeam table count) alone (sound-turn table count team.state team.roll p now)

    turns-own : after_turn table (after_turn table team p) q ≡ settled (own (own team p) q)
    turns-own =
        ap (λ t. after_turn table t q) alone
        ∙ (turned (own team p) good_own q (own_runs team now p r q back o)).after

    -- q's turn adds to its history what it would have added before
    pub work-kept : work (turn table (after_turn table team p) q).answer ≡ work (turn table team q).answer
    work-kept =
        ap (λ t. work (turn table t q).answer) alone
        ∙ ((turned (own team p) good_own q (own_runs team now p r q back o)).adds
        ∙ (ap own_work (own-words team now p r q back o.below) ∙ sym (turned team now q o).adds))

  -- their turns commute
  own-swapped : (team : Team) → SoundTeam table count team → (p q : ℕ) → Runs team p → Runs team q → p ≢ q
      → own (own team p) q ≡ own (own team q) p
  unfolding own
  own-swapped team now p q r o n =
      rw (own-words team now p r q (λ e. n (sym e)) o.below, own-words team now q o p n r.below)
      (λ i.
      record {
        state = with_process-swapped team.state count p q (own_words (process_at team.state p) p)
            (own_words (process_at team.state q) q) now.stands.team.state-sized
            (own-sized team now p r.below) (own-sized team now q o.below) r.below o.below n i;
        roll = with_arrival-swapped team.roll count p q (own_record (process_at team.state p) p)
            (own_record (process_at team.state q) q) now.stands.team.roll-sized r.below o.below n i;
      })

  pub turns-swapped : (team : Team) → SoundTeam table count team → (p q : ℕ) → Runs team p → Runs team q → p ≢ q
      → after_turn table (after_turn table team p) q ≡ after_turn table (after_turn table team q) p
  turns-swapped team now p q r o n =
      turns-own team now p q r o n
      ∙ (ap settled (own-swapped team now p q r o n) ∙ sym (turns-own team now q p o r (λ e. n (sym e))))

  -- a turn of a process that does not run, or that the team lacks
  pub idle-turn : (team : Team) → SoundTeam table count team → (p : ℕ) → (Runs team p → ⊥) → Idle team (turn table team p)
  idle-turn team now p n =
      let none : Running table count team.state team.roll p → ⊥ =
      λ r. n (record { below = r.below; status = r.is.status }) in
      by_turn table count team.state team.roll p (Idle team)
      (record {
        lacking = λ m. record { same = refl; no-work = refl };
        waiting = record { same = refl; no-work = refl };
        ended = record { same = refl; no-work = refl };
        works = record {
          moves = λ r d. absurd (none r);
          finishes = λ r d. absurd (none r);
          arrives = λ r k e apart. absurd (none r);
          completes = λ r k e meets. absurd (none r);
        };
      })
      now

  -- whether a process runs
  pub runs_dec : (team : Team) (p : ℕ) → Dec (Runs team p)
  runs_dec team p =
      elim (dec_lt p count) [
        | yes l ↦
            elim (ℕ_discrete (status_at team.roll p) running) [
              | yes e ↦ yes (record { below = l; status = e })
              | no n ↦ no (λ r. n r.status)
            ]
        | no m ↦ no (λ r. m r.below)
      ]
