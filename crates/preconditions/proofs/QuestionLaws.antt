-- What the questions' parts say: of a process's stack and record, of a statement's need of a place, of the start words.
use mathlib.Core.Bool.{true, false}
use mathlib.Core.List.{List}
use mathlib.Core.Logic.{⊎_elim}
use mathlib.Core.Path.{◌≡◌, refl}
use Prim.Native.Nat.{ℕ, ◌+◌, ◌-◌, ◌*◌, ◌≤◌}
use native.Mathlib.Nat.{mul-le-mul}
use native.Mathlib.Omega.{arith}
use lib.Dec.{eqb}
use lib.ListN.{get_or}
use borrow.Author.Tests.{ne_eqb}
use Rattle.rules.specs.declared.Node.{Node}
use Rattle.rules.specs.Arrivals.{status_at}
use Rattle.rules.specs.Evaluation.{Environment, doors}
use Rattle.rules.specs.Process.{variable_places, most_processes, depth_at, stack_at, depth, top, needs_place}
use Rattle.rules.specs.Step.{stack_fits, record_fits}
use Rattle.rules.specs.Table.{Program, statement_of}
use Rattle.rules.specs.WellFormed.{is_statement}
use Rattle.rules.proofs.ChoiceLaws.{bool_cases, all-at}
use Rattle.rules.proofs.KindLaws.{by_kind}

-- the top of a stack that holds an entry is a statement
pub top-fits : (program : Program) (words : List ℕ) → stack_fits program words ≡ true → 1 ≤ depth words
    → is_statement program (top words) ≡ true
unfolding stack_fits
top-fits program words e l =
    let at : stack_at + (depth words - 1) ≡ depth_at + depth words = omega arith in
    rw at at (all-at (λ i. is_statement program (get_or words (stack_at + i) 0)) (depth words) e (depth words - 1) (omega arith))

-- an ended process's stack is empty, and no other's
pub record_empty : (program : Program) (words roll : List ℕ) (p : ℕ) → (status_at roll p ≡ 2 → ⊥) → eqb (depth words) 0 ≡ true
    → record_fits program words roll p ≡ false
unfolding record_fits
record_empty program words roll p u e =
    ⊎_elim
    (λ (f : eqb (status_at roll p) 0 ≡ true). simp (f, e))
    (λ (f : eqb (status_at roll p) 0 ≡ false).
    ⊎_elim
    (λ (g : eqb (status_at roll p) 1 ≡ true). simp (f, g, e))
    (λ (g : eqb (status_at roll p) 1 ≡ false). simp (f, g, ne_eqb (status_at roll p) 2 u))
    (bool_cases (eqb (status_at roll p) 1)))
    (bool_cases (eqb (status_at roll p) 0))

-- only kinds 18 and 20 can need a stack place
pub needs_other : (program : Program) (env : Environment) (m : Node) → (m.kind ≡ 18 → ⊥) → (m.kind ≡ 20 → ⊥)
    → needs_place program env (statement_of m) ≡ false
unfolding needs_place
needs_other program env m n l =
    by_kind (λ s. needs_place program env s ≡ false) m (λ e. refl) (λ e. absurd (n e)) (λ e. refl) (λ e. absurd (l e)) (λ e. refl)
    (λ e. refl) (λ e. refl) (λ e. refl) (λ e. refl) (λ e. refl) refl

-- the start words of all processes are few
pub given-fits : (size count : ℕ) → size ≤ variable_places + doors → count ≤ most_processes
    → size * count ≤ (variable_places + doors) * most_processes
given-fits size count h k = mul-le-mul h k
