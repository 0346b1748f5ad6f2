-- What the loops over the nodes establish.
use Rattle.std.specs.Prelude.{true, List, ◌⊎◌, ◌≡◌, ℕ, ◌≤◌, ◌<◌, length}
use Rattle.rules.specs.Answers.{Accepted}
use Rattle.rules.specs.Table.{Program, procedures, nodes, statement_at, Statement}
use Rattle.rules.specs.WellFormed.{parts_at, occurrences, question12}
use Rattle.table.specs.Marks.{bit_at}
use Rattle.table.specs.Uses.{CallsBelow}
use Rattle.visit.specs.declared.Visit.{Visit}
use Rattle.visit.specs.Exact.{node_best}
use Rattle.visit.specs.Facts.{Reading, guard_code, FactsTo, NotedTo}
use Rattle.visit.specs.Fields.{used_plane, facts_plane, leaves_plane, all_planes}
use Rattle.visit.specs.Least.{none, least_below}
use Rattle.sweep.specs.declared.Blocked.{Blocked}
use Rattle.sweep.specs.declared.Reached.{Reached}
use Rattle.sweep.specs.declared.Found.{Found}
use Rattle.sweep.specs.Swept.{SweptTo, AfterNodes}

-- by a reading, the facts of the nodes below n, and the least refusal of 13 to 16 at them as far as that does not look at leaves
pub record RuledTo (program : Program) (reading : ℕ → Statement) (n rule : ℕ) (planes : List ℕ) : Type 0 where
  pub facts : FactsTo program reading n (facts_plane planes)
  pub least : rule ≡ least_below (guard_code program reading) n

-- what is kept of the nodes below n where each counts as what it is: their leaves besides
pub record KeptTo (program : Program) (n rule : ℕ) (planes : List ℕ) : Type 0 where
  pub noted : NotedTo program n (leaves_plane planes)
  pub ruled : RuledTo program (statement_at program) n rule planes

-- something fails at node n
abbrev pub Fails : Program → ℕ → List ℕ → Type 0
Fails program n planes = (best : ℕ) → best ≤ none → node_best program n (used_plane planes) best < none

-- the nodes from `first` up to n are swept, and nothing failed at them
pub record Going (program : Program) (first : Visit) (end start : ℕ) (before after : List ℕ) (n rule : ℕ) : Type 0 where
  pub from : first.node ≤ n
  pub to : n ≤ end
  pub size : length after ≡ all_planes
  pub low : rule ≤ none
  pub marks : (best : ℕ) → SweptTo program first.node best (used_plane before) → SweptTo program n best (used_plane after)
  pub called : (k : ℕ) → first.node ≤ k → k < n → CallsBelow program k first.limit
  pub noted : NotedTo program first.node (leaves_plane before) → NotedTo program n (leaves_plane after)
  pub ruled : (reading : Reading program first.node n) → RuledTo program reading.counts first.node start before
      → RuledTo program reading.counts n rule after
  pub used : (k : ℕ) → k < 256 → bit_at (used_plane after) k ≡ true
      → (bit_at (used_plane before) k ≡ true) ⊎ ((m : ℕ) × (m < n) × (1 ≤ occurrences k (parts_at program m)))

-- up to `end`, or to a node at which something fails if a call may name any procedure
pub record Quickly (program : Program) (first : Visit) (end start : ℕ) (before after : List ℕ) (r : Reached) : Type 0 where
  pub going : Going program first end start before after r.node r.rule
  pub stuck : r.node < end → first.limit ≡ procedures program → Fails program r.node after

-- block by block. If every procedure had its block, every call names a procedure below its own.
pub record InBlocks (program : Program) (planes : List ℕ) (r : Blocked) : Type 0 where
  pub to : r.reached.node ≤ nodes program
  pub size : length planes ≡ all_planes
  pub low : r.reached.rule ≤ none
  pub marks : SweptTo program r.reached.node none (used_plane planes)
  pub kept : KeptTo program r.reached.node r.reached.rule planes
  pub called : r.ordered ≡ true → question12 program ≡ Accepted

-- all nodes. What is kept matters only where no earlier question fails.
pub record AllNodes (program : Program) (planes : List ℕ) (r : Found) : Type 0 where
  pub size : length planes ≡ all_planes
  pub marks : AfterNodes program r.best (used_plane planes)
  pub kept : r.best ≡ none → KeptTo program (nodes program) r.rule planes
  pub called : r.ordered ≡ true → question12 program ≡ Accepted
