-- `collectives::arrivals::all_ended` meets its contract: its chain puts the test to each process.
use Rattle.std.proofs.Common.{rules, tests, ◌≡◌, true, false, refl, ℕ, eqb, arith}
use Rattle.std.proofs.lemmas.Iterator.{cases_from_all, YieldsList-from_range}
use Rattle.rules.specs.Arrivals.{ended, status_at}
use Rattle.process.proofs.RangeLaws.{all_told}
use Rattle.collectives.proofs.arrivals.all_ended.Goals as goal

pub returns : goal.returns
returns c =
    let roll = c.args.roll.now in
    let n = c.args.count in
    let test = λ (p : ℕ). eqb (status_at roll p) ended in
    all_told test n _
    (cases_from_all _ _ _ (λ p. test p ≡ true) (λ p. test p ≡ false) c.all.ensures.ran (YieldsList-from_range 0 n n refl (omega arith))
    (λ p q k. search (rules, tests)) (λ p q k. search (rules, tests)))
