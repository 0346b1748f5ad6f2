-- `has_leave` meets its contract: its chain puts the test to each node.
use Rattle.std.proofs.Common.{rules, tests, ◌≡◌, ◌≢◌, true, false, not, refl, ℕ, arith}
use Rattle.std.proofs.lemmas.Iterator.{cases_from_any, YieldsList-from_range}
use Rattle.rules.proofs.KindLaws.{leave_of, no-leave}
use Rattle.rules.specs.Table.{decode, node_at, statement_at, is_leave}
use Rattle.loops.proofs.RangeLaws.{any_told}
use Rattle.loops.proofs.has_leave.Goals as goal

pub returns : goal.returns
unfolding statement_at
returns c =
    let table = c.args.table.now.bytes.now in
    let n = c.args.table.now.header.nodes in
    let stays = λ (p : ℕ). not (is_leave (statement_at (decode table) p)) in
    let leaves : (p : ℕ) → (node_at (decode table) p).kind ≡ 26 → stays p ≡ false =
    λ p e. rw (leave_of (node_at (decode table) p) e) in
    let passes : (p : ℕ) → (node_at (decode table) p).kind ≢ 26 → stays p ≡ true =
    λ p e. rw (no-leave (node_at (decode table) p) e) in
    rw (← c.args.table.now.sized.nodes-read)
    (any_told stays n _
    (cases_from_any _ _ _ (λ p. stays p ≡ false) (λ p. stays p ≡ true) c.any.ensures.ran (YieldsList-from_range 0 n n refl (omega arith))
    (λ p q k. leaves p (search (rules, tests))) (λ p q k. (search (rules, tests), passes p (search (rules, tests))))))
