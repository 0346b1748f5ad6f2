-- From a start, whatever the table and the turns, no stack holds a node of a dead branch, and no answer names one.
use mathlib.Core.Bool.{true}
use mathlib.Core.List.{List, [], ◌∷◌}
use mathlib.Core.Path.{◌≡◌}
use Prim.Native.Nat.{ℕ}
use Rattle.rules.specs.Run.{Team, after_turn, answers, answer_nodes, start_team}
use Rattle.rules.specs.Judgement.{live}
use Rattle.rules.specs.Process.{process_at, top}
use Rattle.rules.specs.Step.{Outcome, completed}
use Rattle.rules.specs.Switches.{EachLive, NamedLive, DeadNeverReached}
use Rattle.rules.proofs.SoundRun.{SoundTeam, sound-turn, sound-started, sound-run}
use Rattle.rules.proofs.Stands.{Sound, alive}
use Rattle.rules.proofs.TurnCases.{Running, TurnCases, by_turn}
use Rattle.rules.specs.Table.{decode}

module _ (table : List ℕ) (count : ℕ) where
  abbrev NamesLive : Outcome → Type 0
  NamesLive outcome = EachLive (decode table) (answer_nodes outcome.answer)

  named_cases : (state roll : List ℕ) (p : ℕ) → Sound table count state roll → TurnCases table count state roll p NamesLive
  unfolding completed
  named_cases state roll p now =
      record {
        lacking = λ m. tt;
        waiting = tt;
        ended = tt;
        works =
            record {
              moves = λ r n. tt;
              finishes = λ r d. tt;
              arrives = λ r k e apart. (top-live r, tt);
              completes = λ r k e meets. (top-live r, tt);
            };
      }
    where
      top-live : Running table count state roll p → live (decode table) (top (process_at state p)) ≡ true
      top-live r = alive table count state roll now.stands p r.below r.deep

  named-turns : (turns : List ℕ) (team : Team) → SoundTeam table count team
      → NamedLive table (answers table team turns)
  unfolding answers
  named-turns [] team now = tt
  named-turns (p ∷ turns) team now = (
    by_turn table count team.state team.roll p NamesLive (named_cases team.state team.roll p now) now,
    named-turns turns (after_turn table team p) (sound-turn table count team.state team.roll p now),
  )

pub dead_never_reached : DeadNeverReached
dead_never_reached table count words state roll turns taken =
    record {
      entries = λ p i l h. (((sound-run table count words state roll turns taken).stands.placed p l).homes i h).alive;
      named = named-turns table count turns (start_team table count words state roll)
          (sound-started table count words state roll taken);
    }
