-- What a loop that puts a test to the numbers below a count, the last first, knows.
use mathlib.Core.Bool.{Bool, true}
use mathlib.Core.Path.{◌≡◌}
use Prim.Native.Nat.{ℕ, ◌-◌, ◌≤◌, ◌<◌}
use native.Mathlib.Decide.{dec_lt}
use native.Mathlib.Omega.{arith}
use Rattle.rules.proofs.ChoiceLaws.{Passed}

-- every number from p up to the count passes
abbrev pub PassedFrom : (ℕ → Bool) → ℕ → ℕ → Type 0
PassedFrom test p count = (k : ℕ) → p ≤ k → k < count → test k ≡ true

pub from-none : (test : ℕ → Bool) (count : ℕ) → PassedFrom test count count
from-none test count k l m = absurd (omega arith)

pub from_more : (test : ℕ → Bool) (p count : ℕ) → 0 < p → PassedFrom test p count → test (p - 1) ≡ true
    → PassedFrom test (p - 1) count
from_more test p count h passed here k l m =
    elim (dec_lt k p) [
      | yes low ↦ let e : k ≡ p - 1 = omega arith in rw e here
      | no high ↦ passed k (omega arith) m
    ]

pub from_all : (test : ℕ → Bool) (p count : ℕ) → p ≤ 0 → PassedFrom test p count → Passed test count
from_all test p count none passed k l = passed k (omega arith) l
