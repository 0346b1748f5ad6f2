-- "Switches fixed when the table is written": what is claimed of them. Nothing else cites this file.
use Rattle.std.specs.Prelude.{true, List, [], ◌∷◌, ◌≡◌, ℕ, ◌+◌, ◌<◌, get_or}
use Rattle.rules.specs.Answers.{Verdict, Stepped, Accepted, ◌then◌}
use Rattle.rules.specs.Acceptance.{question1, judged_by, judged, checked}
use Rattle.rules.specs.Evaluation.{Environment, value}
use Rattle.rules.specs.Judgement.{single, fixed, unfixed, fixing, live}
use Rattle.rules.specs.Process.{stack_at, process_at, depth}
use Rattle.rules.specs.Run.{Team, after_turns, answers, answer_nodes, start_team}
use Rattle.rules.specs.Start.{started}
use Rattle.rules.specs.Table.{Program, decode, statement_at, branch}
use Rattle.rules.specs.WellFormed.{well_formed}

-- a fixed expression of a well-formed table has its value in every environment; and "fixed passes wherever single does"
abbrev pub FixedValue : Type 0
FixedValue =
    (table : List ℕ) → well_formed table ≡ Accepted → (env : Environment) (n v : ℕ) → fixing (decode table) n ≡ fixed v
    → value (decode table) env n ≡ v

abbrev pub FixedSingle : Type 0
FixedSingle =
    (table : List ℕ) → well_formed table ≡ Accepted → (n v : ℕ) → fixing (decode table) n ≡ fixed v → single (decode table) n ≡ true

-- the judgement as it was before there were switches: every node counts as what it is
abbrev pub formerly_judged : Program → Verdict
formerly_judged program = judged_by program (statement_at program)

-- no if has a fixed condition
abbrev pub Unswitched : Program → Type 0
Unswitched program = (n a b c : ℕ) → statement_at program n ≡ branch a b c → fixing program a ≡ unfixed

-- a table without fixed conditions is answered as before
abbrev pub JudgedAsBefore : Type 0
JudgedAsBefore =
    (table scratch : List ℕ) → Unswitched (decode table)
    → checked table scratch ≡ (question1 scratch then well_formed table then formerly_judged (decode table))

-- and a table that was accepted is accepted still, whatever its conditions
abbrev pub StillAccepted : Type 0
StillAccepted =
    (table : List ℕ) → well_formed table ≡ Accepted → formerly_judged (decode table) ≡ Accepted → judged (decode table) ≡ Accepted

-- every node of a list is live, and so is every node in an answer
abbrev pub EachLive : Program → List ℕ → Type 0
EachLive program [] = Unit {0}
EachLive program (n ∷ nodes) = (live program n ≡ true) × EachLive program nodes

abbrev pub NamedLive : List ℕ → List Stepped → Type 0
NamedLive table [] = Unit {0}
NamedLive table (answer ∷ answers) = EachLive (decode table) (answer_nodes answer) × NamedLive table answers

-- what is live of a team of `count` processes after a list of turns: every stack entry, and every node at which a process
-- arrived or met
pub record LiveRun (table : List ℕ) (count : ℕ) (team : Team) (turns : List ℕ) : Type 0 where
  pub entries : (p i : ℕ) → p < count → i < depth (process_at (after_turns table team turns).state p)
      → live (decode table) (get_or (process_at (after_turns table team turns).state p) (stack_at + i) 0) ≡ true
  pub named : NamedLive table (answers table team turns)

-- "A meeting in a dead branch can never be reached": from a start that was taken, on any table and after any turns, no stack
-- holds a node of a dead branch, and no answer has named one
abbrev pub DeadNeverReached : Type 0
DeadNeverReached =
    (table : List ℕ) (count : ℕ) (words state roll turns : List ℕ) → (started table count words state roll).answer ≡ Accepted
    → LiveRun table count (start_team table count words state roll) turns
