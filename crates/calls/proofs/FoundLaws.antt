-- The first place that fails a test, found from the highest place down.
use mathlib.Core.Bool.{Bool, true, false}
use mathlib.Core.Logic.{◌⊎◌, inl, inr, ⊎_elim}
use mathlib.Core.Path.{◌≡◌, refl, sym, ◌∙◌}
use Prim.Native.Nat.{ℕ, ◌+◌, ◌≤◌, ◌<◌}
use native.Mathlib.Decide.{dec_lt}
use native.Mathlib.Omega.{arith}
use Rattle.rules.specs.Choice.{first_failing}
use Rattle.rules.proofs.ChoiceLaws.{first-none, first-at}

-- the lowest place that fails, among those from i on
pub record Found (test : ℕ → Bool) (count i low : ℕ) : Type 0 where
  pub bound : low ≤ count
  pub passed : (j : ℕ) → i ≤ j → j < low → test j ≡ true
  pub fails : (low ≡ count) ⊎ ((i ≤ low) × (test low ≡ false))

pub found_none : (test : ℕ → Bool) (count : ℕ) → Found test count count count
found_none test count = record { bound = omega arith; passed = λ j above under. absurd (omega arith); fails = inl refl }

pub found_first : (test : ℕ → Bool) (count low : ℕ) → Found test count 0 low → low ≡ first_failing test count
found_first test count low f =
    ⊎_elim
    (λ (e : low ≡ count). e ∙ sym (first-none test count (λ k under. f.passed k (omega arith) (omega arith))))
    (λ (h : (0 ≤ low) × (test low ≡ false)).
    elim (dec_lt low count) [
      | yes inside ↦ sym (first-at test count low inside (λ k under. f.passed k (omega arith) under) h.1)
      | no outside ↦
          let e : low ≡ count = omega (arith, f.bound) in
          e ∙ sym (first-none test count (λ k under. f.passed k (omega arith) (omega arith)))
    ])
    f.fails

module _ (test : ℕ → Bool) (count n low : ℕ) (inside : n < count) (f : Found test count (n + 1) low) where
  pub found_passed : test n ≡ true → Found test count n low
  found_passed e =
      record {
        bound = f.bound;
        passed = λ j above under.
            elim (dec_lt n j) [
              | yes higher ↦ f.passed j (omega arith) under
              | no here ↦ let same : j ≡ n = omega arith in rw same e
            ];
        fails =
            ⊎_elim (λ (e : low ≡ count). inl e) (λ (h : (n + 1 ≤ low) × (test low ≡ false)). inr (omega arith, h.1))
            f.fails;
      }

  pub found_here : test n ≡ false → Found test count n n
  found_here e =
      record { bound = omega arith; passed = λ j above under. absurd (omega arith); fails = inr (omega arith, e) }
