-- Question 26 of a node, and of a table by its procedures' bodies.
use mathlib.Core.Bool.{true, false, not}
use mathlib.Core.List.{List}
use mathlib.Core.Path.{◌≡◌, sym, ◌∙◌}
use Prim.Native.Nat.{ℕ, ◌%◌, ◌<◌}
use native.Mathlib.Decide.{ℕ_discrete}
use native.Mathlib.Omega.{arith}
use lib.Dec.{ltb}
use borrow.Author.Tests.{not-true, lt-ltb}
use Rattle.rules.specs.Choice.{first_failing, all_below}
use Rattle.rules.specs.Judgement.{holds_leave}
use Rattle.rules.specs.Table.{Program, procedures, nodes, body, node_at, statement_at}
use Rattle.rules.specs.WellFormed.{nearest_loop, leave_enclosed}
use Rattle.rules.proofs.ChoiceLaws.{first-none, all-at}
use Rattle.rules.proofs.Formed.{Formed}
use Rattle.rules.proofs.KindLaws.{leave_of, no-leave}
use Rattle.rules.proofs.LeaveLaws.{bodies-enclosed}
use Rattle.table.specs.Marks.{bit_at}
use Rattle.leaves.specs.Leaves.{HeldTo}

module _ (program : Program) (n : ℕ) where
  pub enclosed-other : ((node_at program n).kind ≡ 26 → ⊥) → true ≡ leave_enclosed program n
  unfolding leave_enclosed statement_at
  enclosed-other other = simp (no-leave (node_at program n) other)

  pub enclosed-leave : (node_at program n).kind ≡ 26 → ltb (nearest_loop program n) (nodes program) ≡ leave_enclosed program n
  unfolding leave_enclosed statement_at
  enclosed-leave e = rw (leave_of (node_at program n) e)

-- no body holds a leave that stands in no while
pub none_loose : (program : Program) (leaves : List ℕ) → Formed program → HeldTo program (statement_at program) (nodes program) leaves
    → all_below (λ p. not (bit_at leaves (body program p % 256))) (procedures program) ≡ true
    → nodes program ≡ first_failing (leave_enclosed program) (nodes program)
unfolding statement_at
none_loose program leaves formed held shut =
    let closed : (p : ℕ) → p < procedures program → holds_leave program (statement_at program) (body program p) ≡ false =
    λ p l.
    let own : body program p % 256 ≡ body program p = omega (arith, formed.body_below p l, formed.nodes-high) in
    sym (held.known (body program p) (formed.body_below p l))
    ∙ not-true _ (rw own at (all-at (λ q. not (bit_at leaves (body program q % 256))) (procedures program) shut p l)) in
    sym
    (first-none (leave_enclosed program) (nodes program)
    (λ n l.
    elim (ℕ_discrete (node_at program n).kind 26) [
      | yes e ↦
          let near = bodies-enclosed program formed closed n (leave_of (node_at program n) e) in
          sym (enclosed-leave program n e) ∙ lt-ltb (nearest_loop program n) (nodes program) near
      | no other ↦ sym (enclosed-other program n other)
    ]))
