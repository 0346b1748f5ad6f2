-- How many latches there are to copy.
use mathlib.Core.Bool.{true, false, ◌&&◌}
use mathlib.Core.Logic.{⊎_elim}
use mathlib.Core.List.{List}
use mathlib.Core.Path.{◌≡◌}
use Prim.Native.Nat.{ℕ, ◌/◌, ◌%◌, ◌≤◌}
use native.Mathlib.Omega.{arith}
use lib.Dec.{eqb, ltb}
use lib.ListN.{length, length-take}
use Rattle.rules.proofs.ChoiceLaws.{bool_cases}
use Rattle.rules.specs.Process.{latch_places, process_words}
use Rattle.rules.specs.Start.{latches_of}

-- a process has only so many latches
pub few_latches : (state : List ℕ) (p : ℕ) → length (latches_of state p) ≤ latch_places
unfolding latches_of
few_latches state p =
    ⊎_elim
    (λ (e : (eqb (length state % process_words) 0 && ltb p (length state / process_words)) ≡ true).
    simp (e, length-take) (omega arith))
    (λ (e : (eqb (length state % process_words) 0 && ltb p (length state / process_words)) ≡ false). simp e (omega arith))
    (bool_cases (eqb (length state % process_words) 0 && ltb p (length state / process_words)))
