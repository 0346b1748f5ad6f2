-- `preconditions::fitting::lies_below` meets its contract: its chain puts the test to each entry below the top.
use Rattle.std.proofs.Common.{rules, tests, ◌≡◌, ◌≢◌, ◌∙◌, ◌+◌, ◌-◌, ◌<◌, not, Bool, true, false, List, sym, ap, ℕ, eqb, length, get_or, take, drop, MatchBool, arith}
use Rattle.std.specs.List.{AllWithin, HoldsAt}
use Rattle.std.proofs.lemmas.Iterator.{cases_from_any, YieldsList-from_slice}
use lib.Seq.{length-take-le, get_or-take, get_or-drop}
use lib.ListN.{length-drop}
use borrow.Author.Tests.{eq-eqb, ne_eqb}
use Rattle.rules.specs.Choice.{all_below}
use Rattle.rules.specs.Process.{stack_at, depth}
use Rattle.rules.proofs.ChoiceLaws.{all_true, all-false}
use Rattle.preconditions.proofs.fitting.lies_below.Goals as goal

-- what `any` says of the entries, which stand in the words from a place on
told : (part words : List ℕ) (w from n : ℕ) → length part ≡ n → ((i : ℕ) → i < n → get_or part i 0 ≡ get_or words (from + i) 0)
    → (r : Bool) → MatchBool r ((k : ℕ) × (k < length part) × HoldsAt (λ e. e ≡ w) part k) (AllWithin (λ e. e ≢ w) part 0 (length part))
    → r ≡ not (all_below (λ i. not (eqb (get_or words (from + i) 0) w)) n)
told part words w from n size at true h =
    let low : h.0 < n = omega (arith, h.1, size) in
    ap not (sym (all-false _ n h.0 low (ap not (eq-eqb _ _ (sym (at h.0 low) ∙ h.2 0)))))
told part words w from n size at false h =
    ap not (sym (all_true _ n (λ i l. ap not (ne_eqb _ _ (λ e. h i 0 (omega arith) (omega (arith, size)) (at i l ∙ e))))))

pub returns : goal.returns
returns c =
    let words = c.args.words.now in
    let w = c.args.w in
    let below = depth words - 1 in
    let width = stack_at + below - stack_at in
    let part = take width (drop stack_at words) in
    let same : width ≡ below = omega arith in
    let size : length part ≡ below =
    length-take-le width (drop stack_at words) (omega (arith, length-drop stack_at words, c.requires.sized, c.requires.bounded)) ∙ same in
    told part words w stack_at below size
    (λ i l. get_or-take width (drop stack_at words) i 0 (omega arith) ∙ get_or-drop stack_at words i 0) _
    (cases_from_any _ _ _ (λ e. e ≡ w) (λ e. e ≢ w) c.any.ensures.ran (YieldsList-from_slice part c.iter.ensures.rest)
    (λ e q k. search (rules, tests)) (λ e q k. search (rules, tests)))
