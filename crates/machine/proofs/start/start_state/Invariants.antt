-- `machine::start::start_state` meets its contract. The processes passed are laid out; a part of the state is lent for each.
use Rattle.rules.specs.Table
use Rattle.rules.specs.Table.{decode, procedures, main_body, body}
use Rattle.rules.specs.Start.{start_process, start_words}
use Rattle.rules.specs.Process.{each_process}
use Prim.Native.Nat.{ℕ}
use mathlib.Core.Path.{◌≡◌}
use mathlib.Core.List.{List}
use Rattle.machine.proofs.start.start_state.Given as goal

abbrev pub laid_for : List ℕ → List ℕ → ℕ → List ℕ → List ℕ
laid_for table words q earlier = start_process (decode table) (start_words (decode table) words q)

-- the processes below p are laid out
pub record Laying (table : List ℕ) (words state₀ : List ℕ) (v entry : ℕ) (state : List ℕ) (p : ℕ)
    : Type 0 where
  pub counted : v ≡ Table.variables (decode table)
  pub entered : entry ≡ main_body (decode table)
  pub reached : state ≡ each_process (laid_for table words) p state₀

abbrev pub invariant-loop-p : goal.invariant-loop-p
invariant-loop-p l = Laying l.table l.words l.initial.state l.variables l.entry l.state l.p
