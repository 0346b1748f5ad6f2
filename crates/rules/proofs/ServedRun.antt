-- From a start, whatever the table and the turns, a call that serves is refused with 22 alone; and demand 3 of the turns that
-- such calls choose.
use mathlib.Core.Bool.{true}
use mathlib.Core.List.{List, [], ◌∷◌, ◌++◌}
use mathlib.Core.Path.{◌≡◌, refl, sym, ap, ◌∙◌}
use Prim.Native.Nat.{ℕ, ◌*◌, ◌<◌}
use native.Mathlib.Decide.{dec_lt}
use native.Mathlib.Omega.{arith}
use lib.ListN.{length}
use borrow.Author.Tests.{lt-ltb, le-ltb}
use Rattle.rules.specs.declared.Refusal.{Refusal}
use Rattle.std.specs.Prelude.{Err}
use Rattle.rules.specs.Answers.{Accepted}
use Rattle.rules.specs.Arrivals.{running, arrival_size, status_at}
use Rattle.rules.specs.Run.{Team, after_turn, after_turns, start_team}
use Rattle.rules.specs.Scheduling.{some_runs, next_process, Served, serving, served_by, served, chosen_in}
use Rattle.rules.specs.Scheduling.{Worked, then_chosen, ServesTaken, ServedInRun, Demand3Served}
use Rattle.rules.specs.Step.{question22, stepped}
use Rattle.rules.proofs.Agreement.{demand3}
use Rattle.rules.proofs.ServingLaws.{next-runs, next-below, taken-worked, not-refused, by-serving, served_as_single_turns}
use Rattle.rules.proofs.SoundRun.{SoundTeam, sound-turn, sound-run}
use Rattle.rules.proofs.Stands.{Sound, only_22_of_team, only_22}
use Rattle.rules.proofs.VerdictLaws.{processes_in_lem, step-taken}

module _ (table : List ℕ) (count : ℕ) where
  -- no turn of a running process is refused
  pub running-taken : (state roll : List ℕ) (p : ℕ) → Sound table count state roll → p < count → status_at roll p ≡ running
      → Worked (stepped table state roll p).answer
  running-taken state roll p now l runs =
      rw (step-taken table state roll count p now.stands.team.roll-sized
      (only_22 table count state roll now.stands now.apart p) l)
      (taken-worked table state roll count p runs)

  pub next_low : (roll : List ℕ) (last : ℕ) → length roll ≡ arrival_size * count → some_runs roll last ≡ true
      → next_process roll last < count
  next_low roll last sized some = rw (processes_in_lem roll count sized) at (next-below roll last some)

  no_refusal : (state roll : List ℕ) (last : ℕ) (r : Refusal) → Sound table count state roll → some_runs roll last ≡ true
      → (stepped table state roll (next_process roll last)).answer ≡ Err r → ⊥
  no_refusal state roll last r now some =
      not-refused _
      (running-taken state roll (next_process roll last) now (next_low roll last now.stands.team.roll-sized some)
      (next-runs roll last some)) r

  abbrev Unrefused : ℕ → ℕ → ℕ → Team → Served → List ℕ → Type 0
  Unrefused turns made last team end list = SoundTeam table count team → end.answer ≡ Accepted

  serving-taken : (turns made last : ℕ) (team : Team) → SoundTeam table count team
      → (serving table turns made last team).answer ≡ Accepted
  serving-taken =
      by-serving Unrefused table
      (record {
        used = λ made last team now. refl;
        none = λ turns made last team e now. refl;
        refuses = λ turns made last team r some e now. absurd (no_refusal team.state team.roll last r now some e);
        takes = λ turns made last team a some e end list rest now.
            rest (sound-turn table count team.state team.roll (next_process team.roll last) now);
      })

  served-taken : (team : Team) (last turns : ℕ) → SoundTeam table count team
      → (served table team.state team.roll last turns).answer ≡ question22 count last
  unfolding served served_by
  served-taken team last turns now =
      elim (dec_lt last count) [
        | yes l ↦ simp (only_22_of_team table count team.state team.roll now.stands now.apart last, lt-ltb last count l) (serving-taken turns 0 last team now)
        | no m ↦ simp (only_22_of_team table count team.state team.roll now.stands now.apart last, le-ltb last count (omega arith))
      ]

pub serves-taken : ServesTaken
serves-taken table count words state roll before last turns taken =
    served-taken table count (after_turns table (start_team table count words state roll) before) last turns
    (sound-run table count words state roll before taken)

-- two lists of turns in a row
after_append : (table : List ℕ) (team : Team) (first second : List ℕ)
    → after_turns table team (first ++ second) ≡ after_turns table (after_turns table team first) second
unfolding after_turns
after_append table team [] second = refl
after_append table team (p ∷ first) second = after_append table (after_turn table team p) first second

pub served_in-run : ServedInRun
served_in-run table team before last turns =
    let all = served_as_single_turns table (after_turns table team before) last turns in
    let e = after_append table team before (chosen_in table (after_turns table team before) last turns) in
    record { state-is = all.state-is ∙ sym (ap (λ t. t.state) e); roll-is = all.roll-is ∙ sym (ap (λ t. t.roll) e) }

pub demand3-served : Demand3Served
demand3-served table scratch count words state roll before last turns given =
    demand3 table scratch count words state roll
    (then_chosen table (start_team table count words state roll) before last turns) given
