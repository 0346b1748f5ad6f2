-- What questions 23 and 24 say of the process whose turn it is, and of all processes once the last of them arrives.
use mathlib.Core.Bool.{true, false}
use mathlib.Core.List.{List}
use mathlib.Core.Path.{◌≡◌, sym, ◌∙◌}
use Prim.Native.Nat.{ℕ, ◌<◌}
use native.Mathlib.Decide.{dec_lt, ℕ_discrete}
use native.Mathlib.Omega.{arith}
use borrow.Author.Tests.{eq-eqb}
use Rattle.rules.specs.declared.Arrival.{Arrival}
use Rattle.rules.specs.declared.Node.{Node}
use Rattle.rules.specs.Arrivals.{running, waiting, status_at, with_arrival, all_at_one_node}
use Rattle.rules.specs.Process.{stack_places, process_at, environment, depth, top, needs_place}
use Rattle.rules.specs.Step.{place_lacked}
use Rattle.rules.specs.Table.{decode, node_at, statement_at}
use Rattle.rules.specs.WellFormed.{is_statement}
use Rattle.rules.proofs.ArrivalLaws.{with_arrival-length, with_arrival-other}
use Rattle.rules.proofs.StatusLaws.{one_node_waits}
use Rattle.process.specs.Given.{Stacked, is_collective, Topped, Turn}
use Rattle.collectives.specs.Given.{AtCollective}
use Rattle.collectives.proofs.CollectiveLaws.{broadcast-fits, exchange-fits}
use Rattle.preconditions.proofs.FittingLaws.{fits-stacked, run-stacked, run-statement, run-topped}
use Rattle.machine.specs.Outcomes.{Ready}

module _ {table : List ℕ} {state roll : List ℕ} {count p : ℕ} (r : Ready table state roll count p)
    (runs : status_at roll p ≡ running) where
  pub ready-stacked : Stacked (process_at state p)
  ready-stacked = run-stacked r.team r.within (r.fits p r.within) runs

  pub ready-statement : is_statement (decode table) (top (process_at state p)) ≡ true
  ready-statement = run-statement r.team r.within (r.fits p r.within) runs

  pub ready-topped : {m : Node} → m ≡ node_at (decode table) (top (process_at state p))
      → Topped table (process_at state p) count m
  ready-topped e = run-topped r.team r.within (r.fits p r.within) runs e

  -- 24: a full stack has no statement on top that needs a place
  pub ready-place : needs_place (decode table) (environment (process_at state p) p count) (statement_at (decode table) (top (process_at state p))) ≡ true
      → depth (process_at state p) < stack_places
  unfolding place_lacked
  ready-place needs =
      elim (dec_lt (depth (process_at state p)) stack_places) [
        | yes l ↦ l
        | no l ↦
            let full : depth (process_at state p) ≡ stack_places = omega (arith, ready-stacked.bounded) in
            let lacked : true ≡ false = rw (eq-eqb _ _ runs, eq-eqb _ _ full, needs) at r.place in
            let z : ◌≡◌ {A = ℕ} 0 1 = cc in
            absurd (omega arith)
      ]

  pub ready-turn : {m : Node} → m ≡ node_at (decode table) (top (process_at state p)) → is_collective m.kind ≡ false
      → Turn table (process_at state p) p count m
  ready-turn e f = record { topped = ready-topped e; alone = f; place = ready-place }

  -- where the arrival of process p is the last, every process holds an entry
  module _ (arrival : Arrival) (together : all_at_one_node (with_arrival roll p arrival) count ≡ true) where
    others_wait : (q : ℕ) → q < count → (q ≡ p → ⊥) → status_at roll q ≡ waiting
    others_wait q l other =
        sym (with_arrival-other roll p q arrival other).status ∙ one_node_waits (with_arrival roll p arrival) count q together l

    pub all-stacked : (q : ℕ) → q < count → Stacked (process_at state q)
    all-stacked q l =
        elim (ℕ_discrete q p) [
          | yes e ↦ rw e ready-stacked
          | no other ↦
              fits-stacked (decode table) state roll q (r.fits q l) count r.team.stated l
              (λ e. let w : status_at roll q ≡ 1 = others_wait q l other in omega arith)
        ]

    pub meeting_of : {m : Node} → m ≡ node_at (decode table) (top (process_at state p)) → is_collective m.kind ≡ true
        → AtCollective (with_arrival roll p arrival) count m
    meeting_of e h =
        record {
          rolled = with_arrival-length roll p arrival ∙ r.team.rolled;
          few = r.team.few;
          meets = h;
          stored = λ k. (broadcast-fits (ready-topped e) k).0;
          filled = λ k. (exchange-fits (ready-topped e) k).1;
        }
