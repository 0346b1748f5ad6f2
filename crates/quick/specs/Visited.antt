-- A node that is visited quickly: nothing fails, and all that is kept of it is kept.
use Rattle.std.specs.Prelude.{List, ◌≡◌, ℕ, ◌+◌, ◌≤◌, ◌<◌, length}
use Rattle.rules.specs.Table.{Program, procedures}
use Rattle.table.specs.Uses.{CallsBelow}
use Rattle.visit.specs.declared.Visit.{Visit}
use Rattle.visit.specs.Exact.{node_best}
use Rattle.visit.specs.Facts.{Reading, guard_code, FactsTo, NotedTo}
use Rattle.visit.specs.Fields.{used_plane, facts_plane, leaves_plane, all_planes}
use Rattle.visit.specs.Least.{none}
use Rattle.visit.specs.Quick.{Quick}

-- a visit that answers 0 is stuck: it changes nothing, and if a call might name any procedure, something fails at the node. Any other
-- answers the refusal by the node's rule, as far as that does not look at leaves. Fact and rule are those of every reading by which
-- the node counts as what it is.
pub record Visited (program : Program) (v : Visit) (before after : List ℕ) (r : ℕ) : Type 0 where
  pub size : length after ≡ all_planes
  pub same : r ≡ 0 → after ≡ before
  pub stuck : r ≡ 0 → v.limit ≡ procedures program → (best : ℕ) → best ≤ none
      → node_best program v.node (used_plane before) best < none
  pub taken : (r ≡ 0 → ⊥) → Quick program v.node (used_plane before) (used_plane after)
  pub called : (r ≡ 0 → ⊥) → CallsBelow program v.node v.limit
  pub noted : (r ≡ 0 → ⊥) → NotedTo program v.node (leaves_plane before) → NotedTo program (v.node + 1) (leaves_plane after)
  pub facts : (r ≡ 0 → ⊥) → (reading : Reading program v.node (v.node + 1)) → FactsTo program reading.counts v.node (facts_plane before)
      → FactsTo program reading.counts (v.node + 1) (facts_plane after) × (r ≡ guard_code program reading.counts v.node)
