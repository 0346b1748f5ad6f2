-- What the questions of a step are given of a team, and question 23 of one process.
use Rattle.std.specs.Prelude.{Bool, ◌&&◌, List, ◌≡◌, ℕ, ◌*◌, ◌≤◌, leb, length}
use Rattle.rules.specs.Arrivals.{arrival_size}
use Rattle.rules.specs.Process.{stack_places, process_words, most_processes, depth}
use Rattle.rules.specs.Step.{stack_fits, record_fits}
use Rattle.rules.specs.Table.{Program}
use Rattle.rules.specs.WellFormed.{well_formed}
use Rattle.table.specs.Header.{Passing}

-- a well-formed table, and a state and a roll of `count` processes
pub record GivenTeam (table : List ℕ) (state roll : List ℕ) (count : ℕ) : Type 0 where
  pub read : Passing well_formed table
  pub some : 1 ≤ count
  pub few : count ≤ most_processes
  pub stated : length state ≡ process_words * count
  pub rolled : length roll ≡ arrival_size * count

-- question 23 of one process, by its words
abbrev pub words_fit : Program → List ℕ → List ℕ → ℕ → Bool
words_fit program words roll p = leb (depth words) stack_places && stack_fits program words && record_fits program words roll p
