-- The next process: what a round that has passed some over knows, and what it finds.
use mathlib.Core.Bool.{Bool, true, false, not}
use mathlib.Core.List.{List}
use mathlib.Core.Logic.{⊎_elim}
use mathlib.Core.Path.{◌≡◌, ◌∙◌, ap}
use Prim.Native.Nat.{ℕ, ◌+◌, ◌*◌, ◌%◌, ◌<◌}
use native.Mathlib.Nat.{mod-add-mod}
use native.Mathlib.Omega.{arith}
use lib.Dec.{eqb}
use lib.ListN.{length}
use borrow.Author.Tests.{lt-ltb, le-ltb}
use Rattle.std.proofs.Common.{Some, None}
use Rattle.rules.specs.Arrivals.{arrival_size, running, status_at}
use Rattle.rules.specs.Scheduling.{place_after, passed_over, some_runs, next_process}
use Rattle.rules.proofs.ChoiceLaws.{Passed, bool_cases, first-at, first-none}
use Rattle.rules.proofs.ServingLaws.{next-below}
use Rattle.rules.proofs.VerdictLaws.{processes_in_lem}
use Rattle.scheduler.specs.Serving.{next_of}

-- the process i places on does not run
abbrev pub passes : List ℕ → ℕ → ℕ → ℕ → Bool
passes roll count last i = not (eqb (status_at roll (place_after count last i)) running)

pub one_on : (count last p i : ℕ) → p ≡ (last + i) % count → (p + 1) % count ≡ place_after count last i
one_on count last p i e = rw e (mod-add-mod (last + i) count 1 ∙ ap (λ n. n % count) (omega arith))

module _ (roll : List ℕ) (count last : ℕ) (sized : length roll ≡ arrival_size * count) where
  pub found-next : (i : ℕ) → i < count → Passed (passes roll count last) i → passes roll count last i ≡ false
      → Some (place_after count last i) ≡ next_of roll last
  unfolding next_process passed_over
  found-next i l h f = rw (processes_in_lem roll count sized, first-at (passes roll count last) count i l h f, lt-ltb i count l)

  pub found_none : Passed (passes roll count last) count → None ≡ next_of roll last
  unfolding next_process passed_over
  found_none h = rw (processes_in_lem roll count sized, first-none (passes roll count last) count h, le-ltb count count (omega arith))

  pub next-within : some_runs roll last ≡ true → next_process roll last < count
  next-within some = rw (processes_in_lem roll count sized) at (next-below roll last some)

-- what the answer tells
pub none_runs : (roll : List ℕ) (last : ℕ) → next_of roll last ≡ None → some_runs roll last ≡ false
none_runs roll last e =
    ⊎_elim
    (λ (some : some_runs roll last ≡ true).
    let found : Some (next_process roll last) ≡ None = rw some at e in
    let z : ◌≡◌ {A = ℕ} 0 1 = cc in
    absurd (omega arith))
    (λ (none : some_runs roll last ≡ false). none)
    (bool_cases (some_runs roll last))

pub next-is : (roll : List ℕ) (last p : ℕ) → next_of roll last ≡ Some p → (some_runs roll last ≡ true) × (p ≡ next_process roll last)
next-is roll last p e =
    ⊎_elim
    (λ (some : some_runs roll last ≡ true).
    let found : Some (next_process roll last) ≡ Some p = rw some at e in
    let same : p ≡ next_process roll last = cc in
    (some, same))
    (λ (none : some_runs roll last ≡ false).
    let found : None ≡ Some p = rw none at e in
    let z : ◌≡◌ {A = ℕ} 0 1 = cc in
    absurd (omega arith))
    (bool_cases (some_runs roll last))
