-- What a replay is compared by: what a start leaves, the status that answers say, and what a call leaves that serves the team to its
-- end.
use mathlib.Core.Bool.{false}
use mathlib.Core.List.{List, [], ◌∷◌, ◌++◌}
use mathlib.Core.Logic.{inl, inr}
use mathlib.Core.Path.{◌≡◌, refl, sym, ◌∙◌, ap, subst}
use Prim.Native.Nat.{ℕ, ◌+◌, ◌≤◌, ◌<◌}
use native.Mathlib.Decide.{dec_lt}
use native.Mathlib.Nat.{zero-add}
use native.Mathlib.Omega.{arith}
use lib.ListN.{length}
use borrow.Author.Tests.{le-ltb}
use Rattle.rules.specs.Answers.{Accepted}
use Rattle.rules.specs.Arrivals.{running_record, team_status}
use Rattle.rules.specs.Order.{worked_in_all, Over, EndsAfter, SameStart, Says, EndingSaid, ServedOrderFree, ServedToEnd, TurnsEnough}
use Rattle.rules.specs.Run.{Team, turn, after_turn, after_turns, answers, start_team}
use Rattle.rules.specs.Scheduling.{some_runs, next_process, Served, Stopped, serving, served_by, served, served_in, AllWorked, chosen_in, then_chosen}
use Rattle.rules.specs.Start.{started}
use Rattle.rules.specs.Step.{Outcome, question22, completed}
use Rattle.rules.proofs.FairLaws.{some}
use Rattle.rules.proofs.OrderLaws.{order-free, no_more-turns}
use Rattle.rules.proofs.ServedRun.{running-taken, next_low, serves-taken, served_in-run}
use Rattle.rules.proofs.ServingLaws.{worked-counts, by-serving, served_as_single_turns, serves_on}
use Rattle.rules.proofs.SoundRun.{SoundTeam, sound-turn, sound-run}
use Rattle.rules.proofs.Stands.{only_22_of_team}
use Rattle.rules.proofs.StatusLaws.{team-going, team-over}
use Rattle.rules.proofs.TurnCases.{by_turn}
use Rattle.rules.proofs.VerdictLaws.{processes_in_lem, taken_start, taken-team, taken_at, taken_record}
use Rattle.rules.proofs.WholeLaws.{same-state, same-roll}

pub same_start : SameStart
same_start table count words state roll state2 roll2 taken taken2 =
    let one = taken_start table count words state roll taken in
    let other = taken_start table count words state2 roll2 taken2 in
    let team = taken-team table count words state roll one in
    let team2 = taken-team table count words state2 roll2 other in
    rw (one.state-after, one.roll-after, other.state-after, other.roll-after)
    (λ i.
    record {
      state = same-state count _ _ team.state-sized team2.state-sized
          (λ p l. taken_at table count words state roll one p l ∙ sym (taken_at table count words state2 roll2 other p l)) i;
      roll = same-roll count _ _ (λ p. running_record) team.roll-sized team2.roll-sized
          (taken_record table count words state roll one) (taken_record table count words state2 roll2 other) i;
    })

module _ (table : List ℕ) (count : ℕ) where
  abbrev SaysAfter : Outcome → Type 0
  SaysAfter outcome = Says outcome.answer (team_status outcome.roll count)

  says_after : (team : Team) → SoundTeam table count team → (p : ℕ) → SaysAfter (turn table team p)
  unfolding completed
  says_after team now p =
      by_turn table count team.state team.roll p SaysAfter
      (record {
        lacking = λ m. tt;
        waiting = refl;
        ended = refl;
        works = record {
          moves = λ r d. sym (team-going team.roll count p r.below r.is.status);
          finishes = λ r d. refl;
          arrives = λ r k e apart. refl;
          completes = λ r k e meets. refl;
        };
      })
      now

pub ending-said : EndingSaid
ending-said table count words state roll turns p taken =
    says_after table count (after_turns table (start_team table count words state roll) turns)
    (sound-run table count words state roll turns taken) p

-- how many turns were not idle: all of them, and those of a list behind another
worked-length : (table : List ℕ) (team : Team) (turns : List ℕ) → AllWorked (answers table team turns)
    → worked_in_all (answers table team turns) ≡ length turns
unfolding worked_in_all answers
worked-length table team [] all = refl
worked-length table team (p ∷ turns) all =
    omega (arith, worked-counts _ all.0, worked-length table (after_turn table team p) turns all.1)

worked_append : (table : List ℕ) (team : Team) (first second : List ℕ)
    → worked_in_all (answers table team (first ++ second))
    ≡ worked_in_all (answers table team first) + worked_in_all (answers table (after_turns table team first) second)
unfolding worked_in_all answers after_turns
worked_append table team [] second = sym (zero-add _)
worked_append table team (p ∷ first) second = omega (arith, worked_append table (after_turn table team p) first second)

made_of_all : (table : List ℕ) (team : Team) (before : List ℕ) (last turns : ℕ)
    → worked_in_all (answers table team (then_chosen table team before last turns))
    ≡ worked_in_all (answers table team before) + (served_in table (after_turns table team before) last turns).made
made_of_all table team before last turns =
    let reached = after_turns table team before in
    let single = served_as_single_turns table reached last turns in
    omega (
      arith,
      single.made,
      worked-length table reached (chosen_in table reached last turns) single.worked,
      worked_append table team before (chosen_in table reached last turns),
    )

pub served_order_free : ServedOrderFree
served_order_free table count words state roll before others last turns taken ends ends2 =
    let team = start_team table count words state roll in
    let run = served_in-run table team before last turns in
    let same = order-free table count words state roll (then_chosen table team before last turns) others taken
    (subst (λ r. Over (team_status r count)) run.roll-is ends) ends2 in
    record {
      made = sym (made_of_all table team before last turns) ∙ same.count_of_all;
      state-is = run.state-is ∙ ap (λ t. t.state) same.whole;
      roll-is = run.roll-is ∙ ap (λ t. t.roll) same.whole;
    }

-- a call after which none is found that runs
module _ (table : List ℕ) (count : ℕ) where
  none_over : (team : Team) (last : ℕ) → SoundTeam table count team → last < count → some_runs team.roll last ≡ false
      → Over (team_status team.roll count)
  none_over team last now l none =
      team-over team.roll count
      (λ p m runs.
      let found = some table count p m last team l (processes_in_lem team.roll count now.stands.team.roll-sized) runs in
      let z : ◌≡◌ {A = ℕ} 0 1 = cc in
      omega arith)

  abbrev OverIfNone : ℕ → ℕ → ℕ → Team → Served → List ℕ → Type 0
  OverIfNone turns made last team end list =
      SoundTeam table count team → last < count → some_runs end.roll end.last ≡ false → Over (team_status end.roll count)

  over_if_none : (turns made last : ℕ) (team : Team) → OverIfNone turns made last team (serving table turns made last team) []
  over_if_none turns made last team =
      by-serving OverIfNone table
      (record {
        used = λ made last team now l none. none_over team last now l none;
        none = λ turns made last team e now l none. none_over team last now l none;
        refuses = λ turns made last team r some e now l none. none_over team last now l none;
        takes = λ turns made last team a some e end list rest now l none.
            rest (sound-turn table count team.state team.roll (next_process team.roll last) now)
            (next_low table count team.roll last now.stands.team.roll-sized some) none;
      })
      turns made last team

  -- the last process given is one of the team's, if 22 lets it through
  last-low : (last : ℕ) → question22 count last ≡ Accepted → last < count
  last-low last e =
      elim (dec_lt last count) [
        | yes l ↦ l
        | no m ↦ let f = rw (le-ltb last count (omega arith)) at e in let z : ◌≡◌ {A = ℕ} 0 1 = cc in absurd (omega arith)
      ]

  -- a call that was neither refused nor used its turns
  none_left : (turns : ℕ) (end : Served) → Stopped table turns end → end.answer ≡ Accepted → end.made < turns
      → some_runs end.roll end.last ≡ false
  none_left turns end (inl used) accepted few = absurd (omega (arith, used.1))
  none_left turns end (inr (inl none)) accepted few = none.1
  none_left turns end (inr (inr (r, some, refuses, verdict))) accepted few =
      let z : ◌≡◌ {A = ℕ} 0 1 = cc in absurd (omega arith)

pub served_to_end : ServedToEnd
unfolding served served_by
served_to_end table count words state roll before last turns taken accepted few =
    let reached = after_turns table (start_team table count words state roll) before in
    let now = sound-run table count words state roll before taken in
    let asked = sym (serves-taken table count words state roll before last turns taken) ∙ accepted in
    let verdict = only_22_of_team table count reached.state reached.roll now.stands now.apart last ∙ asked in
    let none = none_left table count turns (served_in table reached last turns) (serves_on table reached last turns verdict)
    accepted few in
    rw verdict
    (over_if_none table count turns 0 last reached now (last-low table count last asked) (rw verdict at none))

-- a list that has as many turns that were not idle as one that ends has ended
made-over : (table : List ℕ) (count : ℕ) (words state roll turns others : List ℕ)
    → (started table count words state roll).answer ≡ Accepted
    → EndsAfter table count (start_team table count words state roll) turns
    → worked_in_all (answers table (start_team table count words state roll) turns)
    ≤ worked_in_all (answers table (start_team table count words state roll) others)
    → EndsAfter table count (start_team table count words state roll) others
unfolding worked_in_all answers
made-over table count words state roll turns others taken ends enough =
    let team = start_team table count words state roll in
    let reached = after_turns table team others in
    let now = sound-run table count words state roll others taken in
    team-over reached.roll count
    (λ p l runs.
    omega (
      arith,
      enough,
      worked-counts _ (running-taken table count reached.state reached.roll p now l runs),
      worked_append table team others (p ∷ []),
      no_more-turns table count words state roll turns (others ++ (p ∷ [])) taken ends,
    ))

pub turns_enough : TurnsEnough
turns_enough table count words state roll before others last turns taken ends accepted few =
    let team = start_team table count words state roll in
    let reached = after_turns table team before in
    elim (dec_lt (served_in table reached last turns).made turns) [
      | yes less ↦ served_to_end table count words state roll before last turns taken accepted less
      | no all ↦
          subst (λ r. Over (team_status r count)) (sym (served_in-run table team before last turns).roll-is)
          (made-over table count words state roll others (then_chosen table team before last turns) taken ends
          (omega (arith, few, made_of_all table team before last turns)))
    ]
