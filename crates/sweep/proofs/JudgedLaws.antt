-- The order of questions 13 to 17 as a minimum. Each statement has at most one question of 13 to 16.
use mathlib.Core.Bool.{Bool, true, false}
use mathlib.Core.Path.{◌≡◌, sym, ◌∙◌, ap}
use Prim.Native.Nat.{ℕ, ◌≤◌, ◌<◌, min}
use native.Mathlib.Omega.{arith}
use Rattle.rules.specs.Acceptance.{rule_of, passes, body_flagged, judged_by}
use Rattle.rules.specs.Table.{Program, procedures, nodes}
use Rattle.rules.specs.Table.{Statement, nothing, assign, sequence, branch, loop, call, latch, collective, leave}
use Rattle.rules.specs.Table.{barrier, broadcast, exchange}
use Rattle.visit.specs.Facts.{rule_code, flag_code}
use Rattle.visit.specs.Least.{none, code, failure, least_below, verdict_of}
use Rattle.visit.proofs.LeastLaws.{min_assoc, least-same, least_both, Row, row_more, row_last, codes}

failure-high : (q place : ℕ) (holds : Bool) → q < 65535 → place < 65536 → failure q place holds ≤ none
failure-high q place true known few = omega arith
failure-high q place false known few = omega arith

-- the least refusal of a statement at place n is that by its own question
module _ (program : Program) (reading : ℕ → Statement) (n : ℕ) (few : n < 65536) where
  abbrev asked : ℕ → Statement → ℕ
  asked q s = failure q n (passes q (rule_of program reading s))

  abbrev own : Statement → ℕ
  own s = failure (rule_of program reading s).question n (rule_of program reading s).holds

  high : (q : ℕ) → q < 65535 → (s : Statement) → asked q s ≤ none
  high q known s = failure-high q n (passes q (rule_of program reading s)) known few

  own-least : (s : Statement) → min (asked 13 s) (min (asked 14 s) (min (asked 15 s) (asked 16 s))) ≡ own s
  unfolding rule_of
  own-least nothing = omega arith
  own-least (assign a b) = omega (arith, high 13 (omega arith) (assign a b))
  own-least (sequence a b) = omega arith
  own-least (branch a b c) = omega (arith, high 15 (omega arith) (branch a b c))
  own-least (loop a b) = omega (arith, high 16 (omega arith) (loop a b))
  own-least (call p) = omega arith
  own-least (latch a b) = omega arith
  own-least (collective barrier) = omega arith
  own-least (collective (broadcast a b c)) = omega (arith, high 14 (omega arith) (collective (broadcast a b c)))
  own-least (collective (exchange a r)) = omega arith
  own-least leave = omega arith

  pub rule-high : rule_code program reading n ≤ none
  unfolding rule_code
  rule-high = omega (arith, own-least (reading n), high 13 (omega arith) (reading n))

module _ (program : Program) (reading : ℕ → Statement) (few-nodes : nodes program ≤ 65536) (few-procedures : procedures program ≤ 65536) where
  abbrev test : ℕ → ℕ → Bool
  test q n = passes q (rule_of program reading (reading n))

  abbrev least : ℕ → ℕ
  least q = least_below (codes q (test q)) (nodes program)

  abbrev seventeen : ℕ
  seventeen = least_below (flag_code program reading) (procedures program)

  -- the questions in their order
  in_order : Row (code 13 0) (judged_by program reading) (min (least 13) (min (least 14) (min (least 15) (min (least 16) seventeen))))
  unfolding judged_by flag_code
  in_order =
      row_more 13 (omega arith) (test 13) (nodes program) few-nodes _ _
      (row_more 14 (omega arith) (test 14) (nodes program) few-nodes _ _
      (row_more 15 (omega arith) (test 15) (nodes program) few-nodes _ _
      (row_more 16 (omega arith) (test 16) (nodes program) few-nodes _ _
      (row_last 17 (omega arith) (body_flagged program reading) (procedures program) few-procedures))))

  -- by node
  by-node : least_below (rule_code program reading) (nodes program) ≡ min (least 13) (min (least 14) (min (least 15) (least 16)))
  unfolding rule_code
  by-node =
      let f : ℕ → ℕ → ℕ = λ q. codes q (test q) in
      least-same (rule_code program reading) (λ n. min (f 13 n) (min (f 14 n) (min (f 15 n) (f 16 n)))) (nodes program)
      (λ n l. sym (own-least program reading n (omega arith) (reading n)))
      ∙ least_both (f 13) (λ n. min (f 14 n) (min (f 15 n) (f 16 n))) (nodes program)
      ∙ ap (λ (x : ℕ). min (least 13) x) (least_both (f 14) (λ n. min (f 15 n) (f 16 n)) (nodes program))
      ∙ ap (λ (x : ℕ). min (least 13) (min (least 14) x)) (least_both (f 15) (f 16) (nodes program))

  abbrev all : ℕ
  all = min (least_below (rule_code program reading) (nodes program)) seventeen

  together : Row (code 13 0) (judged_by program reading) all
  together = simp (by-node, min_assoc) in_order

  pub judged-least : (verdict_of all ≡ judged_by program reading) × (all ≤ none)
  judged-least = (together.back, together.high)
