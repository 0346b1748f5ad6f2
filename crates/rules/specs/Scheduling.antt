-- "Turns shared fairly": the machine chooses whose turn it is, round robin, and what is claimed of its choice.
use Rattle.std.specs.Prelude.{Bool, true, false, cond, not, List, [], ◌∷◌, ◌++◌, ◌⊎◌, ◌≡◌, ℕ, zero, suc, ◌+◌, ◌%◌, ◌≤◌, ◌<◌, ltb, eqb, length, take, drop}
use Rattle.rules.specs.declared.Event.{Event}
use Rattle.rules.specs.declared.Event.TheVariants.{Moved, Finished, Arrived, Completed, Waiting, Ended}
use Rattle.rules.specs.declared.Refusal.{Refusal}
use Rattle.std.specs.Prelude.{Ok, Err}
use Rattle.rules.specs.Answers.{Verdict, Stepped, Accepted}
use Rattle.rules.specs.Arrivals.{running, status_at}
use Rattle.rules.specs.Choice.{first_failing}
use Rattle.rules.specs.Run.{Team, turn, after_turn, after_turns, answers, start_team, EqualStart, Agreement}
use Rattle.rules.specs.Start.{started}
use Rattle.rules.specs.WellFormed.{Occurs}
use Rattle.rules.specs.Step.{processes_in, question22, team_verdict, step_verdict}

-- "after that one, cyclically": i places after the process next to the last one; the last one itself is at count - 1
abbrev pub place_after : ℕ → ℕ → ℕ → ℕ
place_after count last i = (last + 1 + i) % count

-- "the first running bank after that one, cyclically": how many that do not run are passed over; the count where none runs
unfoldable pub passed_over : List ℕ → ℕ → ℕ → ℕ
passed_over roll count last = first_failing (λ i. not (eqb (status_at roll (place_after count last i)) running)) count

abbrev pub some_runs : List ℕ → ℕ → Bool
some_runs roll last = ltb (passed_over roll (processes_in roll) last) (processes_in roll)

unfoldable pub next_process : List ℕ → ℕ → ℕ
next_process roll last = place_after (processes_in roll) last (passed_over roll (processes_in roll) last)

-- "The answer gives how many turns were made and which bank was last", and "adds that refusal": Accepted where there is none
pub record Served : Type 0 where
  pub made : ℕ
  pub last : ℕ
  pub answer : Verdict
  pub state : List ℕ
  pub roll : List ℕ

abbrev pub stopped_at : ℕ → ℕ → Verdict → Team → Served
stopped_at made last answer team =
    record { made = made; last = last; answer = answer; state = team.state; roll = team.roll }

-- what follows a turn that is taken, or one that would be refused
abbrev pub if_taken : {A : Type 0} → Stepped → A → (Refusal → A) → A
if_taken (Ok answer) go_on stop = go_on
if_taken (Err r) go_on stop = stop r

-- "it serves the first running bank after that one, cyclically, until the turns are used or no bank runs"; "If a turn, the
-- first included, would then be refused, serving stops before it, the turns made stand, and the answer adds that refusal."
unfoldable pub serving : List ℕ → ℕ → ℕ → ℕ → Team → Served
serving table zero made last team = stopped_at made last Accepted team
serving table (suc turns) made last team =
    let next = next_process team.roll last in
    cond (some_runs team.roll last)
    (if_taken (turn table team next).answer (serving table turns (suc made) next (after_turn table team next))
    (λ r. stopped_at made last (Err r) team))
    (stopped_at made last Accepted team)

-- "No turns made: the last bank is the one given."
unfoldable pub served_by : Verdict → List ℕ → Team → ℕ → ℕ → Served
served_by (Ok _) table team last turns = serving table turns 0 last team
served_by (Err r) table team last turns = stopped_at 0 last (Err r) team

-- "A turn's questions up to 23 are asked first, also when no turn is made"; "A last bank that the roll lacks gets number 22,
-- in its usual place."
unfoldable pub served : List ℕ → List ℕ → List ℕ → ℕ → ℕ → Served
served table state roll last turns =
    served_by (team_verdict table state roll last) table (record { state = state; roll = roll }) last turns

-- the processes that serving chooses, in order
unfoldable pub chosen : List ℕ → ℕ → ℕ → Team → List ℕ
chosen table zero last team = []
chosen table (suc turns) last team =
    let next = next_process team.roll last in
    cond (some_runs team.roll last)
    (if_taken (turn table team next).answer (next ∷ chosen table turns next (after_turn table team next)) (λ r. []))
    []

unfoldable pub chosen_by : Verdict → List ℕ → Team → ℕ → ℕ → List ℕ
chosen_by (Ok _) table team last turns = chosen table turns last team
chosen_by (Err r) table team last turns = []

-- those of a call
unfoldable pub chosen_in : List ℕ → Team → ℕ → ℕ → List ℕ
chosen_in table team last turns = chosen_by (team_verdict table team.state team.roll last) table team last turns

abbrev pub served_in : List ℕ → Team → ℕ → ℕ → Served
served_in table team last turns = served table team.state team.roll last turns

-- "which bank was last": "No turns made: the last bank is the one given."
unfoldable pub last_of : ℕ → List ℕ → ℕ
last_of last [] = last
last_of last (p ∷ turns) = last_of p turns

-- 1 for an answer to a turn that was taken and was not idle, else 0: "idle while waiting, idle after its end"
abbrev pub event_turns : Event → ℕ
event_turns Moved = 1
event_turns Finished = 1
event_turns (Arrived node) = 1
event_turns (Completed node) = 1
event_turns Waiting = 0
event_turns Ended = 0

abbrev pub answer_turns : Stepped → ℕ
answer_turns (Ok answer) = event_turns answer.event
answer_turns (Err r) = 0

-- an answer to a turn that was taken and was not idle
abbrev pub Worked : Stepped → Type 0
Worked (Ok answer) = (answer.event ≡ Waiting → ⊥) × (answer.event ≡ Ended → ⊥)
Worked (Err r) = ⊥

abbrev pub AllWorked : List Stepped → Type 0
AllWorked [] = Unit {0}
AllWorked (answer ∷ answers) = Worked answer × AllWorked answers

-- why serving stopped: the turns are used, no process runs, or the next one's turn would be refused, with that refusal
abbrev pub Stopped : List ℕ → ℕ → Served → Type 0
Stopped table turns end =
    ((end.answer ≡ Accepted) × (end.made ≡ turns))
    ⊎ (((end.answer ≡ Accepted) × (some_runs end.roll end.last ≡ false))
    ⊎ ((r : Refusal) × (some_runs end.roll end.last ≡ true) × (end.answer ≡ Err r)
    × (step_verdict table end.state end.roll (next_process end.roll end.last) ≡ Err r)))

-- 1: "state and roll are as single turns in that order leave them"
pub record AsSingleTurns (table : List ℕ) (team : Team) (last turns : ℕ) (list : List ℕ) (end : Served) : Type 0 where
  pub made : end.made ≡ length list
  pub within : length list ≤ turns
  pub last-is : end.last ≡ last_of last list
  pub state-is : end.state ≡ (after_turns table team list).state
  pub roll-is : end.roll ≡ (after_turns table team list).roll
  pub worked : AllWorked (answers table team list)

abbrev pub ServedAsSingleTurns : Type 0
ServedAsSingleTurns =
    (table : List ℕ) (team : Team) (last turns : ℕ)
    → AsSingleTurns table team last turns (chosen_in table team last turns) (served_in table team last turns)

-- a call whose questions hold goes on until the turns are used, no process runs, or the next turn would be refused
abbrev pub ServesOn : Type 0
ServesOn =
    (table : List ℕ) (team : Team) (last turns : ℕ) → team_verdict table team.state team.roll last ≡ Accepted
    → Stopped table turns (served_in table team last turns)

-- the next turns that serving would make, so many, whether they would be refused or not
unfoldable pub next_turns : List ℕ → ℕ → ℕ → Team → List ℕ
next_turns table zero last team = []
next_turns table (suc n) last team =
    let next = next_process team.roll last in
    next ∷ next_turns table n next (after_turn table team next)

-- p runs before each turn of a list, and none of them would be refused
unfoldable pub StaysRunning : List ℕ → ℕ → Team → List ℕ → Type 0
StaysRunning table p team [] = Unit {0}
StaysRunning table p team (q ∷ turns) =
    (status_at team.roll p ≡ running) × (step_verdict table team.state team.roll q ≡ Accepted)
    × StaysRunning table p (after_turn table team q) turns

-- 2: "A bank that stays running is served within as many turns as there are banks, if so many are left and none of them would be
-- refused": at any point of a call whose questions hold, after i turns made
abbrev pub FairlyServed : Type 0
FairlyServed =
    (table : List ℕ) (team : Team) (last turns i p : ℕ) → team_verdict table team.state team.roll last ≡ Accepted
    → p < processes_in team.roll → i ≤ length (chosen_in table team last turns) → i + processes_in team.roll ≤ turns
    → StaysRunning table p (after_turns table team (take i (chosen_in table team last turns)))
    (next_turns table (processes_in team.roll) (last_of last (take i (chosen_in table team last turns)))
    (after_turns table team (take i (chosen_in table team last turns))))
    → Occurs p (take (processes_in team.roll) (drop i (chosen_in table team last turns)))

-- 3: from a start that was taken, on any table and after any turns, a call is refused for a last process that the team lacks,
-- and for nothing else, however many turns it is given
abbrev pub ServesTaken : Type 0
ServesTaken =
    (table : List ℕ) (count : ℕ) (words state roll before : List ℕ) (last turns : ℕ)
    → (started table count words state roll).answer ≡ Accepted
    → (served_in table (after_turns table (start_team table count words state roll) before) last turns).answer
    ≡ question22 count last

-- a call after a list of turns leaves what one list leaves, those turns and then the chosen ones: so any row of calls and
-- turns is a run
abbrev pub then_chosen : List ℕ → Team → List ℕ → ℕ → ℕ → List ℕ
then_chosen table team before last turns = before ++ chosen_in table (after_turns table team before) last turns

pub record OneRun (table : List ℕ) (team : Team) (run : List ℕ) (end : Served) : Type 0 where
  pub state-is : end.state ≡ (after_turns table team run).state
  pub roll-is : end.roll ≡ (after_turns table team run).roll

abbrev pub ServedInRun : Type 0
ServedInRun =
    (table : List ℕ) (team : Team) (before : List ℕ) (last turns : ℕ)
    → OneRun table team (then_chosen table team before last turns) (served_in table (after_turns table team before) last turns)

-- and demand 3 is true of it
abbrev pub Demand3Served : Type 0
Demand3Served =
    (table scratch : List ℕ) (count : ℕ) (words state roll before : List ℕ) (last turns : ℕ)
    → EqualStart table scratch count words state roll
    → Agreement table count (start_team table count words state roll)
    (then_chosen table (start_team table count words state roll) before last turns)
