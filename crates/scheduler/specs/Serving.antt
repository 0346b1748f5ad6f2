-- What a turn leaves to ask of question 23, and how a call that serves answers.
use Rattle.std.specs.Prelude.{true, cond, Option, Some, None, List, ◌≢◌, ◌≡◌, ℕ, ◌*◌, ◌<◌, length}
use Rattle.rules.specs.declared.Event.{Event}
use Rattle.rules.specs.Answers.{Verdict}
use Rattle.rules.specs.declared.Event.TheVariants.{Moved, Finished, Arrived, Completed, Waiting, Ended}
use Rattle.rules.specs.Arrivals.{arrival_size}
use Rattle.rules.specs.Choice.{first_failing}
use Rattle.rules.specs.Process.{process_words, process_at, top}
use Rattle.rules.specs.Run.{Team}
use Rattle.rules.specs.Scheduling.{some_runs, next_process, Served}
use Rattle.rules.specs.Step.{Outcome, leave_fits, process_fits}
use Rattle.rules.specs.Table.{Program, decode}
use Rattle.rules.specs.WellFormed.{is_statement, well_formed}
use Rattle.table.specs.Header.{Passing}
use Rattle.process.specs.Given.{Stacked}
use Rattle.scheduler.specs.declared.Service.{Service}

abbrev pub service : ℕ → ℕ → Verdict → Service
service made last answer = record { made = made; last = last; answer = answer }

-- the process that is served next, if one runs
abbrev pub next_of : List ℕ → ℕ → Option ℕ
next_of roll last = cond (some_runs roll last) (Some (next_process roll last)) None

-- the first process that question 23 fails of, or the count where it holds of all
abbrev pub unfit_in : Program → List ℕ → List ℕ → ℕ → ℕ
unfit_in program state roll count = first_failing (process_fits program state roll) count

abbrev pub Fit : Program → List ℕ → List ℕ → ℕ → Type 0
Fit program state roll count = (q : ℕ) → q < count → process_fits program state roll q ≡ true

-- process p has moved: a leave that it uncovered is all that is left to ask about
pub record MovedOn (program : Program) (state roll : List ℕ) (count p : ℕ) : Type 0 where
  pub others : (q : ℕ) → q < count → q ≢ p → process_fits program state roll q ≡ true
  pub own : process_fits program state roll p ≡ leave_fits program (process_at state p)
  pub stacked : Stacked (process_at state p)
  pub statement : is_statement program (top (process_at state p)) ≡ true

-- what a turn of process p with that event leaves of a state and a roll that question 23 held of: after a collective every
-- process is asked again
abbrev pub LeftBy : Event → Program → List ℕ → List ℕ → ℕ → ℕ → Type 0
LeftBy Moved program state roll count p = MovedOn program state roll count p
LeftBy Finished program state roll count p = Fit program state roll count
LeftBy (Arrived node) program state roll count p = Fit program state roll count
LeftBy (Completed node) program state roll count p = Unit {0}
LeftBy Waiting program state roll count p = Fit program state roll count
LeftBy Ended program state roll count p = Fit program state roll count

pub record Turned (table : List ℕ) (state roll : List ℕ) (count p : ℕ) (event : Event) : Type 0 where
  pub read : Passing well_formed table
  pub stated : length state ≡ process_words * count
  pub rolled : length roll ≡ arrival_size * count
  pub within : p < count
  pub left : LeftBy event (decode table) state roll count p

-- a turn has left that outcome's state and roll, in which `unfit` is the first process that question 23 fails of
pub record Makes (program : Program) (outcome : Outcome) (count unfit : ℕ) (state roll : List ℕ) : Type 0 where
  pub left : state ≡ outcome.state
  pub written : roll ≡ outcome.roll
  pub unfit_is : unfit ≡ unfit_in program state roll count

abbrev pub team_of : List ℕ → List ℕ → Team
team_of state roll = record { state = state; roll = roll }

-- an answer, and the state and the roll afterwards, are those of a call that serves
pub record Serves (end : Served) (service : Service) (state roll : List ℕ) : Type 0 where
  pub made : service.made ≡ end.made
  pub last : service.last ≡ end.last
  pub answered : service.answer ≡ end.answer
  pub left : state ≡ end.state
  pub written : roll ≡ end.roll
