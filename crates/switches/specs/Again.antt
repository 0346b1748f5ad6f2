-- What the second time over the nodes keeps, by the nodes that count.
use Rattle.std.specs.Prelude.{true, false, List, ◌≡◌, ℕ, ◌≤◌, ◌<◌, length}
use Rattle.rules.specs.Judgement.{counted}
use Rattle.rules.specs.Table.{Program}
use Rattle.rules.specs.WellFormed.{parts_at, occurrences}
use Rattle.sweep.specs.Nodes.{RuledTo}
use Rattle.table.specs.Marks.{bit_at}
use Rattle.visit.specs.Fields.{used_plane, all_planes}
use Rattle.switches.specs.Aside.{aside_plane, four_planes, Aside}

-- each node from n up to `end` is marked
abbrev pub AllMarked : List ℕ → ℕ → ℕ → Type 0
AllMarked marks n end = (k : ℕ) → n ≤ k → k < end → bit_at marks k ≡ true

-- no node from n up to `end` is marked, and `end` is where it is not the last
pub record Stretch (marks : List ℕ) (n count end : ℕ) : Type 0 where
  pub from : n ≤ end
  pub to : end ≤ count
  pub free : (k : ℕ) → n ≤ k → k < end → bit_at marks k ≡ false
  pub stop : end < count → bit_at marks end ≡ true

-- the statements set aside, beside what is worked on
pub record Beside (program : Program) (planes : List ℕ) : Type 0 where
  pub size : length planes ≡ four_planes
  pub aside : Aside program (aside_plane planes)

-- the nodes below n that count are visited: their facts, the least refusal by their rules, and as used nothing but their parts
pub record VisitedTo (program : Program) (n : ℕ) (planes : List ℕ) (rule : ℕ) : Type 0 where
  pub size : length planes ≡ all_planes
  pub ruled : RuledTo program (counted program) n rule planes
  pub used : (k : ℕ) → k < 256 → bit_at (used_plane planes) k ≡ true → (m : ℕ) × (m < n) × (1 ≤ occurrences k (parts_at program m))
