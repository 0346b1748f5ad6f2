-- The moves of a record whose status is known.
use mathlib.Core.List.{List}
use mathlib.Core.Path.{◌≡◌}
use Prim.Native.Nat.{ℕ}
use Rattle.rules.specs.declared.Arrival.{Arrival}
use Rattle.rules.specs.declared.Status.TheVariants.{Running, Waiting}
use Rattle.rules.specs.Arrivals.{running, waiting, status_at, running_record, ended_record, waiting_record, arrive, resume, end}
use Rattle.collectives.specs.Given.{arrival_at}

module _ (roll : List ℕ) (p : ℕ) where
  pub running-at : status_at roll p ≡ running → (arrival_at roll p).status ≡ Running
  unfolding arrival_at
  running-at e = rw e

  pub waiting-at : status_at roll p ≡ waiting → (arrival_at roll p).status ≡ Waiting
  unfolding arrival_at
  waiting-at e = rw e

module _ (r : Arrival) where
  pub arrive-running : (n v s : ℕ) → r.status ≡ Running → arrive r n v s ≡ waiting_record n v s
  arrive-running n v s e = rw e

  pub resume-waiting : r.status ≡ Waiting → resume r ≡ running_record
  resume-waiting e = rw e

  pub end-waiting : r.status ≡ Waiting → end r ≡ ended_record
  end-waiting e = rw e

  pub end-running : r.status ≡ Running → end r ≡ ended_record
  end-running e = rw e
