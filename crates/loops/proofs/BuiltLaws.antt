-- What a well-built table says of the nearest while, and one without leaves of its statements.
use mathlib.Core.Bool.{false, not}
use mathlib.Core.List.{List}
use mathlib.Core.Path.{◌≡◌}
use Prim.Native.Nat.{ℕ, ◌≤◌}
use native.Mathlib.Decide.{dec_lt}
use native.Mathlib.Omega.{arith}
use borrow.Author.Tests.{not-true, not-false}
use Rattle.rules.specs.Table.{Program, decode, nodes, statement_at, is_leave}
use Rattle.rules.specs.WellFormed.{loop_around, nearest_loop, well_built}
use Rattle.rules.proofs.ChoiceLaws.{first_le, all-at}
use Rattle.rules.proofs.Formed.{Formed, statement-past}
use Rattle.table.specs.Header.{Passing}
use Rattle.table.proofs.PassingLaws.{built-formed}
use Rattle.loops.specs.Upward.{has_leave}

-- the number of nodes stands for no while
pub nearest_few : {table : List ℕ} → Passing well_built table → (n : ℕ)
    → nearest_loop (decode table) n ≤ 256
unfolding nearest_loop
nearest_few {table} b n =
    let low = first_le (λ w. not (loop_around (decode table) n (statement_at (decode table) w))) (nodes (decode table)) in
    omega (arith, (built-formed b).nodes-high)

-- a table without leaves
pub no_leave_at : (program : Program) → Formed program → has_leave program ≡ false → (n : ℕ) → is_leave (statement_at program n) ≡ false
no_leave_at program f none n =
    elim (dec_lt n (nodes program)) [
      | yes l ↦
          not-true (is_leave (statement_at program n))
          (all-at (λ m. not (is_leave (statement_at program m))) (nodes program) (not-false _ none) n l)
      | no m ↦ rw (statement-past program f n (omega arith))
    ]
