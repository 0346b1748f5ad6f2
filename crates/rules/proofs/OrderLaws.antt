-- Request U9: the order of turns makes no difference. A running process's turn can be moved to the front of any list after
-- which nobody runs; so two such lists are turned into one another, turn by turn.
use mathlib.Core.Bool.{true, false, cond}
use mathlib.Core.List.{List, [], ◌∷◌, ◌++◌}
use mathlib.Core.Logic.{◌≢◌, ⊎_elim}
use mathlib.Core.Path.{◌≡◌, refl, sym, ◌∙◌, ap, subst}
use Prim.Native.Nat.{ℕ, ◌+◌, ◌≤◌}
use native.Mathlib.Decide.{ℕ_discrete}
use native.Mathlib.Nat.{zero-add}
use native.Mathlib.Omega.{arith}
use lib.Dec.{eqb}
use borrow.Author.Tests.{ne_eqb}
use Rattle.rules.specs.Arrivals.{team_status}
use Rattle.rules.specs.Order.{worked_turns, worked_in_all, Over, OrderFree, NoMoreTurns}
use Rattle.rules.specs.Process.{process_at}
use Rattle.rules.specs.Run.{Team, turn, after_turn, after_turns, answers, collectives, start_team}
use Rattle.rules.proofs.ChoiceLaws.{bool_cases}
use Rattle.rules.proofs.OwnTurn.{Work, work, no_work, Runs, Idle, still_runs, work-kept, turns-swapped, idle-turn, runs_dec}
use Rattle.rules.proofs.SoundRun.{SoundTeam, sound-turn, sound-started}
use Rattle.rules.proofs.StatusLaws.{team-stopped, over-stopped}

-- what the answers to a list of turns come to: q's collectives, its turns that were not idle, and those of all processes
record History : Type 0 where
  pub nodes : List ℕ
  pub turns : ℕ
  pub all : ℕ

unfoldable history : List ℕ → ℕ → Team → List ℕ → History
history table q team turns =
    record {
      nodes = collectives q turns (answers table team turns);
      turns = worked_turns q turns (answers table team turns);
      all = worked_in_all (answers table team turns);
    }

-- and what p's turn adds to it
unfoldable added_to : ℕ → ℕ → Work → History → History
added_to q p one rest =
    record {
      nodes = cond (eqb p q) one.nodes [] ++ rest.nodes;
      turns = cond (eqb p q) one.turns 0 + rest.turns;
      all = one.turns + rest.all;
    }

history-more : (table : List ℕ) (q : ℕ) (team : Team) (p : ℕ) (turns : List ℕ)
    → history table q team (p ∷ turns)
    ≡ added_to q p (work (turn table team p).answer) (history table q (after_turn table team p) turns)
unfolding history added_to answers collectives worked_turns worked_in_all
history-more table q team p turns = refl

-- of two turns of different processes one adds nothing to q's collectives
nodes-swapped : (q p x : ℕ) (xs ys rest : List ℕ) → p ≢ x
    → cond (eqb x q) xs [] ++ (cond (eqb p q) ys [] ++ rest) ≡ cond (eqb p q) ys [] ++ (cond (eqb x q) xs [] ++ rest)
nodes-swapped q p x xs ys rest n =
    elim (ℕ_discrete p q) [
      | yes e ↦ simp (ne_eqb x q (λ f. n (e ∙ sym f))) refl
      | no m ↦ simp (ne_eqb p q m) refl
    ]

added-swapped : (q p x : ℕ) (one other : Work) (rest : History) → p ≢ x
    → added_to q x one (added_to q p other rest) ≡ added_to q p other (added_to q x one rest)
unfolding added_to
added-swapped q p x one other rest n =
    let a = cond (eqb x q) one.turns 0 in
    let b = cond (eqb p q) other.turns 0 in
    let turns : a + (b + rest.turns) ≡ b + (a + rest.turns) = omega arith in
    let all : one.turns + (other.turns + rest.all) ≡ other.turns + (one.turns + rest.all) = omega arith in
    λ i. record { nodes = nodes-swapped q p x one.nodes other.nodes rest.nodes n i; turns = turns i; all = all i }

-- an idle one adds nothing
added_none : (q x : ℕ) (rest : History) → added_to q x no_work rest ≡ rest
unfolding added_to
added_none q x rest =
    ⊎_elim (λ (e : eqb x q ≡ true). simp (e, zero-add) refl) (λ (e : eqb x q ≡ false). simp (e, zero-add) refl)
    (bool_cases (eqb x q))

module _ (table : List ℕ) (count : ℕ) where
  abbrev Stopped : Team → Type 0
  Stopped team = (p : ℕ) → Runs table count team p → ⊥

  -- a list after which all is as after p's turn and the given list
  record Fronted (team : Team) (p : ℕ) (turns : List ℕ) : Type 0 where
    rest : List ℕ
    end : after_turns table (after_turn table team p) rest ≡ after_turns table team turns
    told : (q : ℕ) → history table q team turns
        ≡ added_to q p (work (turn table team p).answer) (history table q (after_turn table team p) rest)

  -- an idle turn before the list
  module _ (team : Team) (x : ℕ) (turns : List ℕ) (idle : Idle team (turn table team x)) where
    history-idle : (q : ℕ) → history table q team (x ∷ turns) ≡ history table q team turns
    history-idle q =
        history-more table q team x turns
        ∙ (rw (idle.no-work, added_none q x (history table q (after_turn table team x) turns))
        (ap (λ t. history table q t turns) idle.same))

    after-idle : after_turns table team (x ∷ turns) ≡ after_turns table team turns
    unfolding after_turns
    after-idle = ap (λ t. after_turns table t turns) idle.same

    fronted-idle : (p : ℕ) → Fronted team p turns → Fronted team p (x ∷ turns)
    fronted-idle p later =
        record {
          rest = later.rest;
          end = later.end ∙ sym after-idle;
          told = λ q. history-idle q ∙ later.told q;
        }

  -- or another running process's
  fronted-other : (team : Team) → SoundTeam table count team → (p x : ℕ) (turns : List ℕ) → Runs table count team p
      → Runs table count team x → p ≢ x → Fronted (after_turn table team x) p turns → Fronted team p (x ∷ turns)
  unfolding after_turns
  fronted-other team now p x turns r o n later =
      let swapped = turns-swapped table count team now p x r o n in
      record {
        rest = x ∷ later.rest;
        end = ap (λ t. after_turns table t later.rest) swapped ∙ later.end;
        told = λ q.
            rw (
              history-more table q team x turns,
              history-more table q (after_turn table team p) x later.rest,
              later.told q,
              work-kept table count team now x p o r (λ e. n (sym e)),
              work-kept table count team now p x r o n,
              swapped,
            )
            (added-swapped q p x (work (turn table team x).answer) (work (turn table team p).answer) _ n);
      }

  -- the first turn of p comes to the front
  fronted : (turns : List ℕ) (team : Team) → SoundTeam table count team → (p : ℕ) → Runs table count team p
      → Stopped (after_turns table team turns) → Fronted team p turns
  unfolding after_turns
  fronted [] team now p r stopped = absurd (stopped p r)
  fronted (x ∷ turns) team now p r stopped =
      elim (ℕ_discrete x p) [
        | yes e ↦ record { rest = turns; end = rw e refl; told = λ q. rw e (history-more table q team p turns) }
        | no n ↦
            elim (runs_dec table count team x) [
              | yes o ↦
                  fronted-other team now p x turns r o (λ e. n (sym e))
                  (fronted turns (after_turn table team x) (sound-turn table count team.state team.roll x now) p
                  (still_runs table count team now x o p (λ e. n (sym e)) r) stopped)
              | no m ↦
                  let idle = idle-turn table count team now x m in
                  fronted-idle team x turns idle p
                  (fronted turns team now p r (subst Stopped (after-idle team x turns idle) stopped))
            ]
      ]

  -- two lists of turns that leave the same team and the same histories
  record Matched (team : Team) (turns others : List ℕ) : Type 0 where
    end : after_turns table team turns ≡ after_turns table team others
    told : (q : ℕ) → history table q team turns ≡ history table q team others

  -- where nobody runs, nothing happens
  nothing_left : (others : List ℕ) (team : Team) → SoundTeam table count team → Stopped team → Matched team [] others
  unfolding after_turns
  nothing_left [] team now stopped = record { end = refl; told = λ q. refl }
  nothing_left (x ∷ others) team now stopped =
      let idle = idle-turn table count team now x (stopped x) in
      let rest = nothing_left others team now stopped in
      record {
        end = rest.end ∙ sym (after-idle team x others idle);
        told = λ q. rest.told q ∙ sym (history-idle team x others idle q);
      }

  -- each turn of the first list that is not idle is found in the second and brought to the front
  matched : (turns : List ℕ) (team : Team) → SoundTeam table count team → (others : List ℕ)
      → Stopped (after_turns table team turns) → Stopped (after_turns table team others) → Matched team turns others
  unfolding after_turns
  matched [] team now others stopped stopped2 = nothing_left others team now stopped
  matched (x ∷ turns) team now others stopped stopped2 =
      elim (runs_dec table count team x) [
        | yes r ↦
            let front = fronted others team now x r stopped2 in
            let rest = matched turns (after_turn table team x) (sound-turn table count team.state team.roll x now)
            front.rest stopped (subst Stopped (sym front.end) stopped2) in
            record {
              end = rest.end ∙ front.end;
              told = λ q.
                  history-more table q team x turns
                  ∙ (ap (added_to q x (work (turn table team x).answer)) (rest.told q) ∙ sym (front.told q));
            }
        | no m ↦
            let idle = idle-turn table count team now x m in
            let rest = matched turns team now others (subst Stopped (after-idle team x turns idle) stopped) stopped2 in
            record {
              end = after-idle team x turns idle ∙ rest.end;
              told = λ q. history-idle team x turns idle q ∙ rest.told q;
            }
      ]

  -- so is each turn of a list that need not have ended
  no_more : (others : List ℕ) (team : Team) → SoundTeam table count team → (turns : List ℕ)
      → Stopped (after_turns table team turns) → worked_in_all (answers table team others) ≤ worked_in_all (answers table team turns)
  unfolding added_to history answers worked_in_all
  no_more [] team now turns stopped = omega arith
  no_more (x ∷ others) team now turns stopped =
      elim (runs_dec table count team x) [
        | yes r ↦
            let front = fronted turns team now x r stopped in
            let rest = no_more others (after_turn table team x) (sound-turn table count team.state team.roll x now)
            front.rest (subst Stopped (sym front.end) stopped) in
            omega (arith, rest, ap (λ h. h.all) (front.told 0))
        | no m ↦
            let idle = idle-turn table count team now x m in
            omega (arith, no_more others team now turns stopped, ap (λ h. h.all) (history-idle team x others idle 0))
      ]

-- nobody runs in a team that is done or deadlocked
stopped-over : (table : List ℕ) (count : ℕ) (team : Team) → Over (team_status team.roll count) → Stopped table count team
stopped-over table count team over p r =
    team-stopped team.roll count (over-stopped _ over) p r.below r.status

-- U9
pub order-free : OrderFree
unfolding history
order-free table count words state roll turns others taken ends ends2 =
    let team = start_team table count words state roll in
    let all = matched table count turns team (sound-started table count words state roll taken) others
    (stopped-over table count _ ends) (stopped-over table count _ ends2) in
    record {
      ending = ap (λ t. team_status t.roll count) all.end;
      words = λ p. ap (λ t. process_at t.state p) all.end;
      lists = λ p. ap (λ h. h.nodes) (all.told p);
      counts = λ p. ap (λ h. h.turns) (all.told p);
      count_of_all = ap (λ h. h.all) (all.told 0);
      whole = all.end;
    }

pub no_more-turns : NoMoreTurns
no_more-turns table count words state roll turns others taken ends =
    let team = start_team table count words state roll in
    no_more table count others team (sound-started table count words state roll taken) turns
    (stopped-over table count _ ends)
