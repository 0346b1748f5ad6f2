-- A call between two turns: what the loop knows there, how it stops, and that a turn leads to the next such place.
use mathlib.Core.Bool.{true, false}
use mathlib.Core.List.{List}
use mathlib.Core.Path.{◌≡◌, refl, sym, ◌∙◌}
use Prim.Native.Nat.{ℕ, suc, ◌+◌, ◌-◌, ◌≤◌, ◌<◌}
use native.Mathlib.Numerals.{add-one}
use native.Mathlib.Omega.{arith}
use borrow.Author.Tests.{lt-ltb}
use Rattle.rules.specs.declared.Refusal.{Refusal}
use Rattle.std.specs.Prelude.{Ok, Err}
use Rattle.rules.specs.Answers.{Verdict, Stepped, Accepted, refused}
use Rattle.rules.specs.Arrivals.{running, status_at, all_at_one_node}
use Rattle.rules.specs.Run.{after_turn}
use Rattle.rules.specs.Scheduling.{some_runs, next_process, Served, stopped_at, serving, served_by, served, Worked}
use Rattle.rules.specs.Step.{process_fits, place_lacked, team_verdict, step_taken, stepped}
use Rattle.rules.proofs.ChoiceLaws.{first-none, all-passed}
use Rattle.rules.proofs.ServingLaws.{next-runs, taken-worked, not-refused}
use Rattle.rules.proofs.VerdictLaws.{TeamSized, questions_left, team_22, processes_in_lem}
use Rattle.preconditions.specs.Asked.{GivenTeam}
use Rattle.machine.specs.Outcomes.{Asked, Ready, Gives}
use Rattle.machine.proofs.VerdictSteps.{denied-team, denied-place, taken_step}
use Rattle.scheduler.specs.Serving.{service, unfit_in, Fit, Makes, team_of, Serves}
use Rattle.scheduler.proofs.NextLaws.{next-within}
use Rattle.scheduler.proofs.TurnLaws.{leaves}
use Rattle.rules.specs.Table.{decode}

-- `end` is what the whole call comes to
pub record Between (table : List ℕ) (count turns : ℕ) (end : Served) (state roll : List ℕ) (made last unfit : ℕ)
    : Type 0 where
  pub team : GivenTeam table state roll count
  pub listed : last < count
  pub apart : all_at_one_node roll count ≡ false
  pub unfit_is : unfit ≡ unfit_in (decode table) state roll count
  pub going : end ≡ serving table (turns - made) made last (team_of state roll)

-- a call at its first place
pub begun : {table : List ℕ} {state roll : List ℕ} {count given : ℕ} (turns : ℕ)
    → Asked table state roll count given
    → Between table count turns (serving table turns 0 given (team_of state roll)) state roll 0 given count
begun {table} {state} {roll} {count} turns asked =
    let e : turns - 0 ≡ turns = omega arith in
    record {
      team = asked.team;
      listed = asked.within;
      apart = asked.apart;
      unfit_is = sym (first-none (process_fits (decode table) state roll) count asked.fits);
      going = rw e;
    }

stopped : {end : Served} {made last : ℕ} {answer : Verdict} {state roll : List ℕ}
    → end ≡ stopped_at made last answer (team_of state roll) → Serves end (service made last answer) state roll
stopped e = rw e (record { made = refl; last = refl; answered = refl; left = refl; written = refl })

module _ {table : List ℕ} {count turns : ℕ} {end : Served} {state roll : List ℕ} {made last unfit : ℕ}
    (b : Between table count turns end state roll made last unfit) where
  pub stops-used : made ≡ turns → Serves end (service turns last Accepted) state roll
  unfolding serving
  stops-used e =
      let none : turns - made ≡ 0 = omega arith in
      rw (← e) (stopped (rw none at b.going))

  module _ (more : made < turns) where
    one_more : end ≡ serving table (suc (turns - suc made)) made last (team_of state roll)
    one_more =
        let e : turns - made ≡ suc (turns - suc made) = omega arith in
        rw e at b.going

    pub stops-idle : some_runs roll last ≡ false → Serves end (service made last Accepted) state roll
    unfolding serving
    stops-idle none = stopped (rw none at one_more)

    module _ (some : some_runs roll last ≡ true) where
      abbrev next : ℕ
      next = next_process roll last

      next_low : next < count
      next_low = next-within roll count last b.team.rolled some

      sized : TeamSized table state roll count
      sized =
          record {
            formed = b.team.read.passed;
            count_low = b.team.some;
            count-high = b.team.few;
            state-sized = b.team.stated;
            roll-sized = b.team.rolled;
          }

      stops : {r : Refusal} → Gives (stepped table state roll next) (Err r) state roll
          → Serves end (service made last (Err r)) state roll
      unfolding serving
      stops g = stopped (rw (some, sym g.answered) at one_more)

      -- "serving stops before it .. and the answer adds that refusal"
      pub stops_23 : unfit < count → Serves end (service made last (refused 23 unfit)) state roll
      stops_23 l =
          stops
          (denied-team table state roll next
          (questions_left table state roll count next sized
          ∙ rw (lt-ltb next count next_low, ← b.unfit_is, lt-ltb unfit count l)))

      module _ (all : count ≤ unfit) where
        fits : Fit (decode table) state roll count
        fits = all-passed (process_fits (decode table) state roll) count (λ l. omega (arith, b.unfit_is))

        holds : team_verdict table state roll next ≡ Accepted
        holds = team_22 table state roll count next sized fits b.apart ∙ rw (lt-ltb next count next_low)

        -- what question 24 is asked with
        pub asked-place : GivenTeam table state roll count × (next < count) × (process_fits (decode table) state roll next ≡ true)
        asked-place = (b.team, next_low, fits next next_low)

        pub stops_24 : place_lacked (decode table) state roll count next ≡ true → Serves end (service made last (refused 24 next)) state roll
        stops_24 e =
            stops (denied-place table state roll next holds (rw (processes_in_lem roll count b.team.rolled) e))

        module _ (free : place_lacked (decode table) state roll count next ≡ false) where
          pub ready : Ready table state roll count next
          ready = record { team = b.team; within = next_low; fits = fits; place = free }

          runs : status_at roll next ≡ running
          runs = next-runs roll last some

          same : stepped table state roll next ≡ step_taken (decode table) state roll count next
          same =
              let counted = processes_in_lem roll count b.team.rolled in
              rw counted at (taken_step table state roll next holds (rw counted free))

          served_on : (s : Stepped) → Worked s → (step_taken (decode table) state roll count next).answer ≡ s
              → end ≡ serving table (turns - suc made) (suc made) next (after_turn table (team_of state roll) next)
          unfolding serving
          served_on (Ok a) worked e = one_more ∙ rw (some, same, e)
          served_on (Err r) worked e = absurd (not-refused (Err r) worked r refl)

          -- a turn is made
          pub goes_on : {after rolled : List ℕ} {left : ℕ} → Makes (decode table) (step_taken (decode table) state roll count next) count left after rolled
              → Between table count turns end after rolled (made + 1) next left
          goes_on m =
              let kept = leaves ready runs in
              let team = b.team in
              let one : made + 1 ≡ suc made = add-one made in
              record {
                team = record {
                  read = team.read;
                  some = team.some;
                  few = team.few;
                  stated = rw m.left kept.stated;
                  rolled = rw m.written kept.rolled;
                };
                listed = next_low;
                apart = rw m.written kept.apart;
                unfit_is = m.unfit_is;
                going = rw (one, m.left, m.written, ← same)
                    (served_on (step_taken (decode table) state roll count next).answer (taken-worked table state roll count next runs) refl);
              }

-- a call by the answer to its questions
module _ (table state roll : List ℕ) (last turns : ℕ) where
  pub served-asked : team_verdict table state roll last ≡ Accepted
      → served table state roll last turns ≡ serving table turns 0 last (team_of state roll)
  unfolding served served_by
  served-asked e = rw e

  pub served-refused : {r : Refusal} → team_verdict table state roll last ≡ Err r
      → Serves (served table state roll last turns) (service 0 last (Err r)) state roll
  unfolding served served_by
  served-refused e = stopped (rw e)
