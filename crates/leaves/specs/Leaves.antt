-- What the pass over the leaves keeps, a bit a node each: what holds a leave, and what is left locally.
use Rattle.std.specs.Prelude.{Bool, cond, not, ◌&&◌, ◌||◌, List, ◌≡◌, ℕ, ◌+◌, ◌%◌, ◌≤◌, min, eqb, length, replicate}
use Rattle.rules.specs.Judgement.{effect, holds_leave, left_locally}
use Rattle.rules.specs.Table.{Program, nodes, node_at, Statement}
use Rattle.table.specs.Marks.{bit_at, with_bit}
use Rattle.visit.specs.Facts.{Reading, PlaneTo, FactsTo}
use Rattle.visit.specs.Fields.{used_plane, facts_plane, leaves_plane, plane_words, all_planes}
use Rattle.visit.specs.Least.{none, failure, least_below}

-- once questions 11 and 12 are answered, the first plane is that of the nodes that are left locally
abbrev pub left_plane : List ℕ → List ℕ
left_plane planes = used_plane planes

-- by a reading
module _ (program : Program) (reading : ℕ → Statement) where
  abbrev pub HeldTo : ℕ → List ℕ → Type 0
  HeldTo = PlaneTo (holds_leave program reading)

  abbrev pub LeftTo : ℕ → List ℕ → Type 0
  LeftTo = PlaneTo (left_locally program reading)

  -- the refusal by 16 at node n where it is a while that is left locally
  unfoldable pub left_code : ℕ → ℕ
  left_code n =
      cond (eqb (node_at program n).kind 20)
      (failure 16 n (not (left_locally program reading (node_at program n).b) || not (effect program reading n)))
      none

-- one of two nodes has its bit
abbrev pub either_bit : List ℕ → ℕ → ℕ → Bool
either_bit plane x y = bit_at plane (x % 256) || bit_at plane (y % 256)

-- node n from its parts x and y: it holds a leave where one of them does, and is left locally where one of them is, or where it is local
-- itself and holds a leave
pub record Joined (n : ℕ) (local : Bool) (x y : ℕ) (before after : List ℕ) : Type 0 where
  pub size : length after ≡ all_planes
  pub facts : facts_plane after ≡ facts_plane before
  pub held : leaves_plane after ≡ cond (either_bit (leaves_plane before) x y) (with_bit (leaves_plane before) n) (leaves_plane before)
  pub left : left_plane after
      ≡ cond ((local && either_bit (leaves_plane before) x y) || either_bit (left_plane before) x y)
      (with_bit (left_plane before) n)
      (left_plane before)

-- one node more, by every reading by which it counts as what it is; what is left locally needs the facts
pub record NodePassed (program : Program) (n : ℕ) (before after : List ℕ) (r : ℕ) : Type 0 where
  pub size : length after ≡ all_planes
  pub facts : facts_plane after ≡ facts_plane before
  pub held : (reading : Reading program n (n + 1)) → HeldTo program reading.counts n (leaves_plane before)
      → HeldTo program reading.counts (n + 1) (leaves_plane after)
  pub left : (reading : Reading program n (n + 1)) → HeldTo program reading.counts n (leaves_plane before)
      → FactsTo program reading.counts (nodes program) (facts_plane before) → LeftTo program reading.counts n (left_plane before)
      → LeftTo program reading.counts (n + 1) (left_plane after) × (r ≡ left_code program reading.counts n)

-- the nodes below n, and the least refusal so far
pub record PassedTo (program : Program) (reading : ℕ → Statement) (rule : ℕ) (before : List ℕ) (n : ℕ) (planes : List ℕ) (least : ℕ)
    : Type 0 where
  pub size : length planes ≡ all_planes
  pub facts : facts_plane planes ≡ facts_plane before
  pub held : HeldTo program reading n (leaves_plane planes)
  pub left : FactsTo program reading (nodes program) (facts_plane before)
      → LeftTo program reading n (left_plane planes) × (least ≡ min rule (least_below (left_code program reading) n))
  pub high : least ≤ none

-- the nodes from `first` up to `end`, by every reading by which they count as what they are
pub record NodesPassed (program : Program) (first end start : ℕ) (before after : List ℕ) (r : ℕ) : Type 0 where
  pub size : length after ≡ all_planes
  pub high : r ≤ none
  pub passed : (reading : Reading program first end) (rule : ℕ) (begun : List ℕ)
      → PassedTo program reading.counts rule begun first before start → PassedTo program reading.counts rule begun end after r

-- before the first node: both planes are clear, and the facts as they were
pub record Cleared (before after : List ℕ) : Type 0 where
  pub size : length after ≡ all_planes
  pub facts : facts_plane after ≡ facts_plane before
  pub held : leaves_plane after ≡ replicate plane_words 0
  pub left : left_plane after ≡ replicate plane_words 0

-- all nodes
pub record LeavesPassed (program : Program) (reading : ℕ → Statement) (rule : ℕ) (before after : List ℕ) (r : ℕ) : Type 0 where
  pub size : length after ≡ all_planes
  pub facts : facts_plane after ≡ facts_plane before
  pub held : HeldTo program reading (nodes program) (leaves_plane after)
  pub least : FactsTo program reading (nodes program) (facts_plane before)
      → r ≡ min rule (least_below (left_code program reading) (nodes program))
  pub high : r ≤ none
