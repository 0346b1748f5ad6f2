-- Each outcome of a step, from what the code knows where it answers.
use mathlib.Core.Bool.{true, false}
use mathlib.Core.List.{List}
use mathlib.Core.Path.{◌≡◌, refl, ◌∙◌, ap}
use Prim.Native.Nat.{ℕ}
use borrow.Author.Tests.{eq-eqb, ne_eqb}
use Rattle.rules.specs.declared.Event.TheVariants.{Moved, Finished, Arrived, Completed, Waiting, Ended}
use Rattle.std.specs.Prelude.{Ok}
use Rattle.rules.specs.declared.TeamStatus.{TeamStatus}
use Rattle.rules.specs.declared.TeamStatus.TheVariants.{Going}
use Rattle.rules.specs.declared.Node.{Node}
use Rattle.rules.specs.Arrivals.{running, waiting, status_at, ended_record, with_arrival, team_status, all_at_one_node}
use Rattle.rules.specs.Collective.{arrival_of, completed_state, released_roll}
use Rattle.rules.specs.Process.{process_at, with_process, environment, depth, top, advanced}
use Rattle.rules.specs.Step.{moved, completed, arrived_at, step_running, step_taken}
use Rattle.rules.specs.Table.{Program, Statement, Collective, node_at, statement_at, statement_of, on_collective}
use Rattle.rules.proofs.KindLaws.{statement-here}
use Rattle.collectives.specs.Given.{collective_of}
use Rattle.machine.specs.Outcomes.{Gives}
use Rattle.process.specs.Given.{is_collective}
use Rattle.process.proofs.AloneLaws.{alone-statement}
use Rattle.collectives.proofs.CollectiveLaws.{collective_of_lem}

module _ (state roll : List ℕ) (count p : ℕ) (words : List ℕ) where
  pub moved_on : {after : List ℕ} → after ≡ with_process state p words → (depth words ≡ 0 → ⊥)
      → Gives (moved state roll count p words) (Ok (record { event = Moved; team = Going })) after roll
  unfolding moved
  moved_on e held = rw (ne_eqb (depth words) 0 held) (record { answered = refl; left = e; written = refl })

  pub finished : {after rolled : List ℕ} {team : TeamStatus} → after ≡ with_process state p words → depth words ≡ 0
      → rolled ≡ with_arrival roll p ended_record → team ≡ team_status rolled count
      → Gives (moved state roll count p words) (Ok (record { event = Finished; team = team })) after rolled
  unfolding moved
  finished e empty r t =
      rw (eq-eqb (depth words) 0 empty)
      (record {
        answered = ap (λ s. Ok (record { event = Finished; team = s })) (t ∙ ap (λ l. team_status l count) r);
        left = e;
        written = r;
      })

module _ (state roll : List ℕ) (count node : ℕ) (meeting : Collective) where
  pub arrived : {at : ℕ} {team : TeamStatus} → at ≡ node → all_at_one_node roll count ≡ false → team ≡ team_status roll count
      → Gives (arrived_at state roll count node meeting) (Ok (record { event = Arrived at; team = team })) state roll
  unfolding arrived_at
  arrived n apart t =
      rw (n, apart)
      (record { answered = ap (λ s. Ok (record { event = Arrived node; team = s })) t; left = refl; written = refl })

  pub met : {at : ℕ} {after rolled : List ℕ} {team : TeamStatus} → at ≡ node → all_at_one_node roll count ≡ true
      → after ≡ completed_state roll count meeting state → rolled ≡ released_roll after count roll
      → team ≡ team_status rolled count
      → Gives (arrived_at state roll count node meeting) (Ok (record { event = Completed at; team = team })) after rolled
  unfolding arrived_at completed
  met n together e r t =
      let released = r ∙ ap (λ s. released_roll s count roll) e in
      rw (n, together)
      (record {
        answered = ap (λ s. Ok (record { event = Completed node; team = s })) (t ∙ ap (λ l. team_status l count) released);
        left = e;
        written = released;
      })

-- what is said of a statement that is a collective, and of one that is not
module _ {A : Type 0} (s : Statement) (m : Node) (e : s ≡ statement_of m) (meet : Collective → A) (other : A) where
  on_alone : is_collective m.kind ≡ false → on_collective s meet other ≡ other
  on_alone f = ap (λ x. on_collective x meet other) e ∙ alone-statement m f meet other

  on_collective_lem : is_collective m.kind ≡ true → on_collective s meet other ≡ meet (collective_of m)
  on_collective_lem t = ap (λ x. on_collective x meet other) (e ∙ collective_of_lem m t)

module _ (program : Program) (state roll : List ℕ) (count p : ℕ) (m : Node) (here : m ≡ node_at program (top (process_at state p))) where
  is-top : statement_at program (top (process_at state p)) ≡ statement_of m
  is-top = statement-here program _ m here refl

  pub run_alone : is_collective m.kind ≡ false
      → step_running program state roll count p
      ≡ moved state roll count p
      (advanced program (environment (process_at state p) p count) (process_at state p)
      (statement_at program (top (process_at state p))))
  unfolding step_running
  run_alone f = on_alone (statement_at program (top (process_at state p))) m is-top _ _ f

  pub run-meets : is_collective m.kind ≡ true
      → step_running program state roll count p
      ≡ arrived_at state
      (with_arrival roll p
      (arrival_of program (environment (process_at state p) p count) (top (process_at state p)) (collective_of m)))
      count (top (process_at state p)) (collective_of m)
  unfolding step_running
  run-meets t = on_collective_lem (statement_at program (top (process_at state p))) m is-top _ _ t

module _ (program : Program) (state roll : List ℕ) (count p : ℕ) where
  pub taken-run : status_at roll p ≡ running → step_taken program state roll count p ≡ step_running program state roll count p
  unfolding step_taken
  taken-run e = rw (eq-eqb (status_at roll p) running e)

  pub taken-waiting : {team : TeamStatus} → status_at roll p ≡ waiting → team ≡ team_status roll count
      → Gives (step_taken program state roll count p) (Ok (record { event = Waiting; team = team })) state roll
  unfolding step_taken
  taken-waiting e t =
      rw (e)
      (record { answered = ap (λ s. Ok (record { event = Waiting; team = s })) t; left = refl; written = refl })

  pub taken-ended : {team : TeamStatus} → (status_at roll p ≡ running → ⊥) → (status_at roll p ≡ waiting → ⊥)
      → team ≡ team_status roll count
      → Gives (step_taken program state roll count p) (Ok (record { event = Ended; team = team })) state roll
  unfolding step_taken
  taken-ended u v t =
      rw (ne_eqb (status_at roll p) running u, ne_eqb (status_at roll p) waiting v)
      (record { answered = ap (λ s. Ok (record { event = Ended; team = s })) t; left = refl; written = refl })
