-- "The order of turns makes no difference": request U9, over the runs of Run.antt and the calls of Scheduling.antt.
use Rattle.std.specs.Prelude.{cond, List, [], ◌∷◌, ◌⊎◌, ◌≡◌, ℕ, ◌+◌, ◌≤◌, ◌<◌, eqb, Ok, Err}
use Rattle.rules.specs.Answers.{Stepped, Accepted}
use Rattle.rules.specs.declared.TeamStatus.{TeamStatus}
use Rattle.rules.specs.declared.TeamStatus.TheVariants.{Done, Deadlocked}
use Rattle.rules.specs.Arrivals.{team_status}
use Rattle.rules.specs.Process.{process_at}
use Rattle.rules.specs.Run.{Team, turn, after_turn, after_turns, answers, collectives, start_team}
use Rattle.rules.specs.Scheduling.{answer_turns, Served, served_in}
use Rattle.rules.specs.Start.{started}

-- a bank's "count of turns that were not idle", from the answers to the run's turns of that bank
unfoldable pub worked_turns : ℕ → List ℕ → List Stepped → ℕ
worked_turns p [] answers = 0
worked_turns p (q ∷ turns) [] = 0
worked_turns p (q ∷ turns) (answer ∷ answers) = cond (eqb q p) (answer_turns answer) 0 + worked_turns p turns answers

-- and that of all banks together
unfoldable pub worked_in_all : List Stepped → ℕ
worked_in_all [] = 0
worked_in_all (answer ∷ answers) = answer_turns answer + worked_in_all answers

-- "done or crossed"
abbrev pub Over : TeamStatus → Type 0
Over status = (status ≡ Done) ⊎ (status ≡ Deadlocked)

-- "each ending with the site done or crossed"
abbrev pub EndsAfter : List ℕ → ℕ → Team → List ℕ → Type 0
EndsAfter table count team turns = Over (team_status (after_turns table team turns).roll count)

-- "The ending, every bank's words, its list of meetings and its count of turns that were not idle come out equal for both."
-- Two things more: the count of all banks together; and state and roll as a whole, so that the end is a function of table and
-- start.
pub record SameEnd (table : List ℕ) (count : ℕ) (team : Team) (turns others : List ℕ) : Type 0 where
  pub ending : team_status (after_turns table team turns).roll count ≡ team_status (after_turns table team others).roll count
  pub words : (p : ℕ) → process_at (after_turns table team turns).state p ≡ process_at (after_turns table team others).state p
  pub lists : (p : ℕ)
      → collectives p turns (answers table team turns) ≡ collectives p others (answers table team others)
  pub counts : (p : ℕ) → worked_turns p turns (answers table team turns) ≡ worked_turns p others (answers table team others)
  pub count_of_all : worked_in_all (answers table team turns) ≡ worked_in_all (answers table team others)
  pub whole : after_turns table team turns ≡ after_turns table team others

-- U9: "For a table that passes 2 to 12 and 26, take two lists of turns from the same start, each ending with the site done or
-- crossed. .. Acceptance is no condition here." A start that was taken has passed those questions. The lists may hold idle and
-- refused turns, also behind the end.
abbrev pub OrderFree : Type 0
OrderFree =
    (table : List ℕ) (count : ℕ) (words state roll turns others : List ℕ)
    → (started table count words state roll).answer ≡ Accepted
    → EndsAfter table count (start_team table count words state roll) turns
    → EndsAfter table count (start_team table count words state roll) others
    → SameEnd table count (start_team table count words state roll) turns others

-- "the same start": the words that a start is lent make no difference to what it leaves, so a replay may lend others.
abbrev pub SameStart : Type 0
SameStart =
    (table : List ℕ) (count : ℕ) (words state roll state2 roll2 : List ℕ)
    → (started table count words state roll).answer ≡ Accepted
    → (started table count words state2 roll2).answer ≡ Accepted
    → start_team table count words state roll ≡ start_team table count words state2 roll2

-- the status that a turn's answer says; a refused turn says none
abbrev pub Says : Stepped → TeamStatus → Type 0
Says (Ok answer) status = answer.team ≡ status
Says (Err r) status = Unit {0}

-- From a start, every turn's answer says what the roll then says. So the ending is also what the last answer of either list
-- says, refused turns left out.
abbrev pub EndingSaid : Type 0
EndingSaid =
    (table : List ℕ) (count : ℕ) (words state roll turns : List ℕ) (p : ℕ)
    → (started table count words state roll).answer ≡ Accepted
    → Says (turn table (after_turns table (start_team table count words state roll) turns) p).answer
    (team_status (after_turn table (after_turns table (start_team table count words state roll) turns) p).roll count)

-- The turns that the machine chooses (U4) are turns in some order. A call after any turns, if it leaves the site done or
-- crossed, leaves what any other list leaves that ends so; its turns and those before it that were not idle are together as many
-- as in that list.
pub record SameServedEnd (table : List ℕ) (team : Team) (before others : List ℕ) (end : Served) : Type 0 where
  pub made : worked_in_all (answers table team before) + end.made ≡ worked_in_all (answers table team others)
  pub state-is : end.state ≡ (after_turns table team others).state
  pub roll-is : end.roll ≡ (after_turns table team others).roll

abbrev pub ServedOrderFree : Type 0
ServedOrderFree =
    (table : List ℕ) (count : ℕ) (words state roll before others : List ℕ) (last turns : ℕ)
    → (started table count words state roll).answer ≡ Accepted
    → Over (team_status (served_in table (after_turns table (start_team table count words state roll) before) last turns).roll count)
    → EndsAfter table count (start_team table count words state roll) others
    → SameServedEnd table (start_team table count words state roll) before others
    (served_in table (after_turns table (start_team table count words state roll) before) last turns)

-- No list has more turns that were not idle than one that ends so.
abbrev pub NoMoreTurns : Type 0
NoMoreTurns =
    (table : List ℕ) (count : ℕ) (words state roll turns others : List ℕ)
    → (started table count words state roll).answer ≡ Accepted
    → EndsAfter table count (start_team table count words state roll) turns
    → worked_in_all (answers table (start_team table count words state roll) others)
    ≤ worked_in_all (answers table (start_team table count words state roll) turns)

-- Turns enough, seen from the answer: a call that is not refused and makes fewer turns than it was given leaves the site done or
-- crossed.
abbrev pub ServedToEnd : Type 0
ServedToEnd =
    (table : List ℕ) (count : ℕ) (words state roll before : List ℕ) (last turns : ℕ)
    → (started table count words state roll).answer ≡ Accepted
    → (served_in table (after_turns table (start_team table count words state roll) before) last turns).answer ≡ Accepted
    → (served_in table (after_turns table (start_team table count words state roll) before) last turns).made < turns
    → Over (team_status (served_in table (after_turns table (start_team table count words state roll) before) last turns).roll count)

-- and known before: as many turns as were not idle in some list that ends so.
abbrev pub TurnsEnough : Type 0
TurnsEnough =
    (table : List ℕ) (count : ℕ) (words state roll before others : List ℕ) (last turns : ℕ)
    → (started table count words state roll).answer ≡ Accepted
    → EndsAfter table count (start_team table count words state roll) others
    → (served_in table (after_turns table (start_team table count words state roll) before) last turns).answer ≡ Accepted
    → worked_in_all (answers table (start_team table count words state roll) others) ≤ turns
    → Over (team_status (served_in table (after_turns table (start_team table count words state roll) before) last turns).roll count)
