-- What the functions on the roll are given, and the collective and the record that the code's numbers stand for.
use Rattle.std.specs.Prelude.{true, cond, List, ◌≡◌, ℕ, ◌*◌, ◌≤◌, ◌<◌, eqb, length}
use Rattle.rules.specs.declared.Arrival.{Arrival}
use Rattle.rules.specs.declared.Node.{Node}
use Rattle.rules.specs.declared.Status.{Status}
use Rattle.rules.specs.declared.Status.TheVariants.{Running, Waiting, Ended}
use Rattle.rules.specs.Arrivals.{arrival_size, running, waiting, status_at, arrival_node, arrival_value, arrival_source}
use Rattle.rules.specs.Process.{variable_places, most_processes}
use Rattle.rules.specs.Table.{Collective, barrier, broadcast, exchange, gathered_areas}
use Rattle.process.specs.Given.{is_collective}

-- kinds 23 to 25
unfoldable pub collective_of : Node → Collective
collective_of m = cond (eqb m.kind 24) (broadcast m.a m.b m.c) (cond (eqb m.kind 25) (exchange m.a m.b) barrier)

-- the status that a word stands for; question 23 refuses a word above 2 before any is read
abbrev pub status_of : ℕ → Status
status_of word = cond (eqb word running) Running (cond (eqb word waiting) Waiting Ended)

-- process p's record in the roll
unfoldable pub arrival_at : List ℕ → ℕ → Arrival
arrival_at roll p =
    record {
      status = status_of (status_at roll p);
      node = arrival_node roll p;
      value = arrival_value roll p;
      source = arrival_source roll p;
    }

-- a roll of `count` records, and the node of a collective
pub record AtCollective (roll : List ℕ) (count : ℕ) (node : Node) : Type 0 where
  pub rolled : length roll ≡ arrival_size * count
  pub few : count ≤ most_processes
  pub meets : is_collective node.kind ≡ true
  pub stored : node.kind ≡ 24 → node.a < variable_places
  pub filled : node.kind ≡ 25 → node.b < gathered_areas
