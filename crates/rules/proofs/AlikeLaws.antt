-- Two tables that say the same, and are both well formed or refused alike, are answered alike.
use mathlib.Core.List.{List, [], ◌∷◌}
use mathlib.Core.Path.{◌≡◌, refl}
use Prim.Native.Nat.{ℕ, zero, suc}
use Rattle.std.specs.Prelude.{Ok, Err}
use Rattle.rules.specs.Answers.{Verdict}
use Rattle.rules.specs.Acceptance.{checked}
use Rattle.rules.specs.Alike.{AnsweredAlike}
use Rattle.rules.specs.Run.{Team, after_turn, after_turns, answers}
use Rattle.rules.specs.Scheduling.{next_process, serving, served_by, served}
use Rattle.rules.specs.Start.{start_verdict, started}
use Rattle.rules.specs.Step.{team_verdict, step_verdict, stepped}
use Rattle.rules.specs.Table.{decode}
use Rattle.rules.specs.WellFormed.{well_formed}

module _ (table other : List ℕ) (formed : well_formed table ≡ well_formed other) (same : decode table ≡ decode other) where
  checked_alike : (scratch : List ℕ) → checked table scratch ≡ checked other scratch
  unfolding checked
  checked_alike scratch = rw (formed, same)

  started_alike : (count : ℕ) (words state roll : List ℕ)
      → started table count words state roll ≡ started other count words state roll
  unfolding started start_verdict
  started_alike count words state roll = rw (formed, same)

  stepped_alike : (state roll : List ℕ) (p : ℕ) → stepped table state roll p ≡ stepped other state roll p
  unfolding stepped step_verdict team_verdict
  stepped_alike state roll p = rw (formed, same)

  answers_alike : (team : Team) (turns : List ℕ) → answers table team turns ≡ answers other team turns
  unfolding answers
  answers_alike team [] = refl
  answers_alike team (p ∷ turns) =
      rw (stepped_alike team.state team.roll p, answers_alike (after_turn other team p) turns)

  run_alike : (team : Team) (turns : List ℕ) → after_turns table team turns ≡ after_turns other team turns
  unfolding after_turns
  run_alike team [] = refl
  run_alike team (p ∷ turns) = rw (stepped_alike team.state team.roll p, run_alike (after_turn other team p) turns)

  serving_alike : (turns made last : ℕ) (team : Team) → serving table turns made last team ≡ serving other turns made last team
  unfolding serving
  serving_alike zero made last team = refl
  serving_alike (suc turns) made last team =
      let next = next_process team.roll last in
      rw (stepped_alike team.state team.roll next, serving_alike turns (suc made) next (after_turn other team next))

  served_alike : (state roll : List ℕ) (last turns : ℕ) → served table state roll last turns ≡ served other state roll last turns
  unfolding served served_by team_verdict
  served_alike state roll last turns = rw (formed, same) (by (team_verdict other state roll last))
    where
      by : (v : Verdict) → served_by v table (record { state = state; roll = roll }) last turns
          ≡ served_by v other (record { state = state; roll = roll }) last turns
      by (Ok _) = serving_alike turns 0 last (record { state = state; roll = roll })
      by (Err r) = refl

pub answered_alike : AnsweredAlike
answered_alike table other formed same =
    record {
      checks = checked_alike table other formed same;
      starts = started_alike table other formed same;
      steps = stepped_alike table other formed same;
      serves = served_alike table other formed same;
      runs = answers_alike table other formed same;
      leaves = run_alike table other formed same;
    }
