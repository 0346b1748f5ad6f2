-- What question 23 says of a process that it holds of.
use mathlib.Core.Bool.{true, ◌&&◌}
use mathlib.Core.List.{List}
use mathlib.Core.Path.{◌≡◌}
use Prim.Native.Nat.{ℕ, ◌*◌, ◌≤◌, ◌<◌}
use native.Mathlib.Decide.{dec_lt}
use native.Mathlib.Omega.{arith}
use lib.Dec.{leb}
use lib.ListN.{length}
use borrow.Author.Tests.{leb-true, eq-eqb}
use Rattle.rules.specs.declared.Node.{Node}
use Rattle.rules.specs.Arrivals.{running, status_at}
use Rattle.rules.specs.Process.{stack_places, process_words, process_at, depth, top}
use Rattle.rules.specs.Step.{stack_fits, record_fits, process_fits}
use Rattle.rules.specs.Table.{Program, decode, node_at}
use Rattle.rules.specs.WellFormed.{is_statement}
use Rattle.rules.proofs.AnswerLaws.{both_left, both_right}
use Rattle.rules.proofs.ProcessLaws.{process_length}
use Rattle.process.specs.Given.{Stacked, Topped}
use Rattle.preconditions.specs.Asked.{GivenTeam}
use Rattle.preconditions.proofs.QuestionLaws.{record_empty, top-fits}

-- one process that question 23 holds of
module _ (program : Program) (state roll : List ℕ) (q : ℕ) (fits : process_fits program state roll q ≡ true) where
  pub bounded : depth (process_at state q) ≤ stack_places
  unfolding process_fits
  bounded =
      leb-true _ stack_places
      (both_left (leb (depth (process_at state q)) stack_places) _
      (both_left _ (record_fits program (process_at state q) roll q) fits))

  pub stack-fit : stack_fits program (process_at state q) ≡ true
  unfolding process_fits
  stack-fit =
      both_right (leb (depth (process_at state q)) stack_places) _
      (both_left _ (record_fits program (process_at state q) roll q) fits)

  pub record_fit : record_fits program (process_at state q) roll q ≡ true
  unfolding process_fits
  record_fit = both_right (leb (depth (process_at state q)) stack_places && stack_fits program (process_at state q)) _ fits

  -- one that has not ended holds an entry
  held : (status_at roll q ≡ 2 → ⊥) → 1 ≤ depth (process_at state q)
  held u =
      elim (dec_lt 0 (depth (process_at state q))) [
        | yes l ↦ l
        | no l ↦
            let none : depth (process_at state q) ≡ 0 = omega arith in
            let no-fit = record_empty program (process_at state q) roll q u (eq-eqb _ 0 none) in
            let z : ◌≡◌ {A = ℕ} 0 1 = cc (record_fit, no-fit) in
            absurd (omega arith)
      ]

  pub fits-stacked : (count : ℕ) → length state ≡ process_words * count → q < count → (status_at roll q ≡ 2 → ⊥)
      → Stacked (process_at state q)
  fits-stacked count sized l u = record { sized = process_length state count q sized l; held = held u; bounded = bounded }

  pub fits-top : (status_at roll q ≡ 2 → ⊥) → is_statement program (top (process_at state q)) ≡ true
  fits-top u = top-fits program (process_at state q) stack-fit (held u)

-- a running process that question 23 holds of
module _ {table : List ℕ} {state roll : List ℕ} {count p : ℕ} (team : GivenTeam table state roll count)
    (within : p < count) (fits : process_fits (decode table) state roll p ≡ true) (runs : status_at roll p ≡ running) where
  unended : status_at roll p ≡ 2 → ⊥
  unended e = omega arith

  pub run-stacked : Stacked (process_at state p)
  run-stacked = fits-stacked (decode table) state roll p fits count team.stated within unended

  pub run-statement : is_statement (decode table) (top (process_at state p)) ≡ true
  run-statement = fits-top (decode table) state roll p fits unended

  pub run-topped : {m : Node} → m ≡ node_at (decode table) (top (process_at state p)) → Topped table (process_at state p) count m
  run-topped e =
      record {
        given = record { read = team.read; sized = run-stacked.sized; few = team.few };
        stacked = run-stacked;
        here = e;
        statement = run-statement;
      }
