-- What a step that is taken is given of a team, and how it answers.
use Rattle.std.specs.Prelude.{true, false, List, ◌≡◌, ℕ, ◌<◌}
use Rattle.rules.specs.Answers.{Stepped}
use Rattle.rules.specs.Arrivals.{all_at_one_node}
use Rattle.rules.specs.Step.{Outcome, process_fits, place_lacked}
use Rattle.preconditions.specs.Asked.{GivenTeam}
use Rattle.rules.specs.Table.{decode}

-- what a step's questions up to 23 say of a team and of process p
pub record Asked (table : List ℕ) (state roll : List ℕ) (count p : ℕ) : Type 0 where
  pub team : GivenTeam table state roll count
  pub within : p < count
  pub fits : (q : ℕ) → q < count → process_fits (decode table) state roll q ≡ true
  pub apart : all_at_one_node roll count ≡ false

-- a team of which question 23 holds, and process p of it, of which question 24 does
pub record Ready (table : List ℕ) (state roll : List ℕ) (count p : ℕ) : Type 0 where
  pub team : GivenTeam table state roll count
  pub within : p < count
  pub fits : (q : ℕ) → q < count → process_fits (decode table) state roll q ≡ true
  pub place : place_lacked (decode table) state roll count p ≡ false

-- an answer, and the state and the roll afterwards, are an outcome's
pub record Gives (outcome : Outcome) (answer : Stepped) (state roll : List ℕ) : Type 0 where
  pub answered : answer ≡ outcome.answer
  pub left : state ≡ outcome.state
  pub written : roll ≡ outcome.roll
