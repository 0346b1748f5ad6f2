-- What the functions on one process's words are given: the facts that the questions of a start and a step have shown.
use Rattle.std.specs.Prelude.{List, Bool, true, false, ◌&&◌, ◌≡◌, ℕ, ◌≤◌, ◌<◌, leb, length}
use Rattle.rules.specs.declared.Node.{Node}
use Rattle.rules.specs.Table.{decode, node_at, statement_at}
use Rattle.rules.specs.WellFormed.{is_statement}
use Rattle.rules.specs.Process.{stack_places, process_words, environment, depth, top, needs_place}
use Rattle.values.specs.Given.{Given}

-- a process's words whose stack holds an entry
pub record Stacked (words : List ℕ) : Type 0 where
  pub sized : length words ≡ process_words
  pub held : 1 ≤ depth words
  pub bounded : depth words ≤ stack_places

-- a process whose top statement is `node`
pub record Topped (table : List ℕ) (words : List ℕ) (count : ℕ) (node : Node) : Type 0 where
  pub given : Given table words count
  pub stacked : Stacked words
  pub here : node ≡ node_at (decode table) (top words)
  pub statement : is_statement (decode table) (top words) ≡ true

-- kinds 23 to 25
abbrev pub is_collective : ℕ → Bool
is_collective kind = leb 23 kind && leb kind 25

-- one whose top is no collective and that has a free stack place if it needs one
pub record Turn (table : List ℕ) (words : List ℕ) (own count : ℕ) (node : Node) : Type 0 where
  pub topped : Topped table words count node
  pub alone : is_collective node.kind ≡ false
  pub place : needs_place (decode table) (environment words own count) (statement_at (decode table) (top words)) ≡ true → depth words < stack_places
