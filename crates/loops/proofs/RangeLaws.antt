-- What `all` and `any` over the numbers below a count say.
use Rattle.std.proofs.Common.{◌≡◌, ◌<◌, not, Bool, true, false, sym, ap, ℕ, length, get_or, MatchBool, arith}
use Rattle.std.specs.List.{range_with_len, AllWithin, HoldsAt}
use Rattle.std.proofs.lemmas.List.FromFn.{length-range_with_len, get_or-range_with_len}
use Rattle.rules.specs.Choice.{all_below}
use Rattle.rules.proofs.ChoiceLaws.{all_true, all-false}

module _ (test : ℕ → Bool) (n : ℕ) where
  abbrev Passing : Type 0
  Passing = AllWithin (λ p. test p ≡ true) (range_with_len 0 n) 0 (length (range_with_len 0 n))

  abbrev Failing : Type 0
  Failing = (k : ℕ) × (k < length (range_with_len 0 n)) × HoldsAt (λ p. test p ≡ false) (range_with_len 0 n) k

  pub all_told : (r : Bool) → MatchBool r Passing Failing → r ≡ all_below test n
  all_told true h =
      let place : (k : ℕ) → k < n → get_or (range_with_len 0 n) k 0 ≡ k = λ k l. omega (arith, get_or-range_with_len 0 n k 0 l) in
      sym (all_true test n (λ k l. rw (place k l) at (h k 0 (omega arith) (omega (arith, length-range_with_len 0 n)))))
  all_told false h =
      let low : h.0 < n = omega (arith, h.1, length-range_with_len 0 n) in
      let place : get_or (range_with_len 0 n) h.0 0 ≡ h.0 = omega (arith, get_or-range_with_len 0 n h.0 0 low) in
      sym (all-false test n h.0 low (rw place at (h.2 0)))

  pub any_told : (r : Bool) → MatchBool r Failing Passing → r ≡ not (all_below test n)
  any_told true h = ap not (all_told false h)
  any_told false h = ap not (all_told true h)
