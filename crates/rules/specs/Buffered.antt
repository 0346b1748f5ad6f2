-- "Exchange without the temporary": an exchange with one, a buffer that takes the values of all processes before any slot
-- is written, and the step that uses it. `SameAsBuffered` says that this step is `stepped`; nothing else cites this file.
use Rattle.std.specs.Prelude.{cond, List, ◌≡◌, ℕ, ◌+◌, eqb, Ok, Err}
use Rattle.std.proofs.lemmas.List.Edits.{sets}
use Rattle.rules.specs.declared.Event.TheVariants.{Arrived, Completed}
use Rattle.rules.specs.Answers.{Verdict}
use Rattle.rules.specs.Arrivals.{running, status_at, arrival_value, with_arrival, team_status, all_at_one_node}
use Rattle.rules.specs.Below.{below}
use Rattle.rules.specs.Collective.{arrival_of, completed_state, released_roll}
use Rattle.rules.specs.Evaluation.{gathered_slot}
use Rattle.rules.specs.Process.{gathered_at, process_at, each_process, environment, top, popped}
use Rattle.rules.specs.Step.{Outcome, taken, processes_in, step_verdict, step_running, step_taken, stepped_by, stepped}
use Rattle.rules.specs.Table.{Program, decode, Collective, barrier, broadcast, exchange, statement_at, on_collective}

-- the temporary: the values of process 0, of process 1, and so on
unfoldable pub buffer : List ℕ → ℕ → List ℕ
buffer roll count = below (λ earlier p. arrival_value roll p) count

-- the values are gathered first, then written into the area named, process by process; the other collectives have no buffer
unfoldable pub buffered_state : List ℕ → ℕ → Collective → List ℕ → List ℕ
buffered_state roll count barrier state = completed_state roll count barrier state
buffered_state roll count (broadcast a b c) state = completed_state roll count (broadcast a b c) state
buffered_state roll count (exchange a r) state =
    let values = buffer roll count in
    each_process (λ p words. popped (sets words (gathered_at + gathered_slot r 0) values)) count state

-- as `completed`, with that state
unfoldable pub buffered_completed : List ℕ → List ℕ → ℕ → ℕ → Collective → Outcome
buffered_completed state roll count node meeting =
    let after = buffered_state roll count meeting state in
    taken (Completed node) (team_status (released_roll after count roll) count) after (released_roll after count roll)

-- as `arrived_at`, with that outcome
unfoldable pub buffered_arrived : List ℕ → List ℕ → ℕ → ℕ → Collective → Outcome
buffered_arrived state roll count node meeting =
    cond (all_at_one_node roll count) (buffered_completed state roll count node meeting)
    (taken (Arrived node) (team_status roll count) state roll)

-- as `step_running`, which has the statements that are no collective
unfoldable pub buffered_running : Program → List ℕ → List ℕ → ℕ → ℕ → Outcome
buffered_running program state roll count p =
    on_collective (statement_at program (top (process_at state p)))
    (λ meeting. buffered_arrived state
    (with_arrival roll p
    (arrival_of program (environment (process_at state p) p count) (top (process_at state p)) meeting))
    count (top (process_at state p)) meeting)
    (step_running program state roll count p)

-- as `stepped_by`, which has the refusals; an idle step is that of `step_taken`
unfoldable pub buffered_by : Verdict → Program → List ℕ → List ℕ → ℕ → Outcome
buffered_by (Ok _) program state roll p =
    cond (eqb (status_at roll p) running) (buffered_running program state roll (processes_in roll) p)
    (step_taken program state roll (processes_in roll) p)
buffered_by (Err r) program state roll p = stepped_by (Err r) program state roll p

unfoldable pub buffered_step : List ℕ → List ℕ → List ℕ → ℕ → Outcome
buffered_step table state roll p = buffered_by (step_verdict table state roll p) (decode table) state roll p

-- "For every table, state, roll and bank asked for, a turn's answer, words and roll afterwards are those of before, refused
-- turns too."
abbrev pub SameAsBuffered : Type 0
SameAsBuffered = (table state roll : List ℕ) (p : ℕ) → buffered_step table state roll p ≡ stepped table state roll p
