-- The planes, and what the fact and the refusal by 13 to 16 of a node are, by its kind, from the facts of its parts.
use mathlib.Core.Bool.{Bool, true, false, cond, not, ◌&&◌, ◌||◌, or-false, not-not}
use mathlib.Core.List.{List}
use mathlib.Core.Logic.{◌⊎◌, inl, ⊎_elim}
use mathlib.Core.Path.{◌≡◌, refl, sym, ◌∙◌}
use Prim.Native.Nat.{ℕ, suc, ◌+◌, ◌-◌, ◌≤◌, ◌<◌}
use native.Mathlib.Decide.{dec_lt}
use native.Mathlib.Omega.{arith}
use lib.Dec.{leb}
use lib.ListN.{length, get_or, replicate, length-replicate}
use borrow.Author.Tests.{leb-true, ne_eqb}
use Rattle.rules.specs.declared.Node.{Node}
use Rattle.rules.specs.Acceptance.{rule_of}
use Rattle.rules.specs.Below.{below, at_node}
use Rattle.rules.specs.Judgement.{single_of, single, effect_of, effect}
use Rattle.rules.specs.Table.{Program, last_statement, flagged, node_at, expression_of, expression_at, statement_of, statement_at}
use Rattle.rules.specs.Table.{Statement, nothing}
use Rattle.rules.specs.WellFormed.{is_expression, is_statement}
use Rattle.rules.proofs.AnswerLaws.{both_left}
use Rattle.rules.proofs.BelowLaws.{below_at}
use Rattle.rules.proofs.ChoiceLaws.{bool_cases}
use Rattle.rules.proofs.KindLaws.{operation_of, by_kind}
use Rattle.table.specs.Marks.{bit_at, with_bit}
use Rattle.table.proofs.BitLaws.{length-with_bit, bit-same, bit-other, bit-zero}
use Rattle.visit.specs.Facts.{Reading, fact, rule_code, guard_code, PlaneTo}
use Rattle.visit.specs.Least.{none, code, failure}

-- readings: the one by which every node counts as what it is
abbrev pub whole : (program : Program) (n end : ℕ) → Reading program n end
whole program n end = record { counts = statement_at program; each = λ k. inl refl; here = λ k from to. refl }

-- one of a stretch is one of its last node, and of those before that
module _ {program : Program} {first : ℕ} (n : ℕ) where
  abbrev pub earlier_of : Reading program first (n + 1) → Reading program first n
  earlier_of reading =
      record { counts = reading.counts; each = reading.each; here = λ k from to. reading.here k from (omega arith) }

  abbrev pub last_of : first ≤ n → Reading program first (n + 1) → Reading program n (n + 1)
  last_of low reading =
      record { counts = reading.counts; each = reading.each; here = λ k from to. reading.here k (omega arith) to }

-- by one of node n it counts as what it is
pub as_it_is : {program : Program} {n : ℕ} (reading : Reading program n (n + 1)) → reading.counts n ≡ statement_at program n
as_it_is {program} {n} reading = reading.here n (omega arith) (omega arith)

-- a plane

pub plane_none : (test : ℕ → Bool) → PlaneTo test 0 (replicate 8 0)
plane_none test =
    record {
      size = length-replicate {A = ℕ} 8 0;
      known = λ k l. absurd (omega arith);
      clear = λ k h l. bit-zero 8 k;
    }

-- it is known of one node more where that node's own bit is right and the others are kept
module _ (test : ℕ → Bool) (n : ℕ) (before after : List ℕ) (low : n < 256) (plane : PlaneTo test n before) where
  one_more : length after ≡ 8 → ((k : ℕ) → (k ≡ n → ⊥) → bit_at after k ≡ bit_at before k) → bit_at after n ≡ test n
      → PlaneTo test (n + 1) after
  one_more size kept here =
      record {
        size = size;
        known = λ k l.
            elim (dec_lt k n) [
              | yes below ↦ kept k (omega arith) ∙ plane.known k below
              | no above ↦ let same : k ≡ n = omega arith in rw same here
            ];
        clear = λ k h l. kept k (omega arith) ∙ plane.clear k (omega arith) l;
      }

  pub plane_more : after ≡ cond (test n) (with_bit before n) before → PlaneTo test (n + 1) after
  plane_more e =
      ⊎_elim
      (λ (t : test n ≡ true).
      let marked : after ≡ with_bit before n = e ∙ simp t in
      one_more (rw marked (length-with_bit before n ∙ plane.size)) (λ k other. rw marked (bit-other before n k other))
      (rw (marked, t) (bit-same before n (omega (arith, plane.size)))))
      (λ (f : test n ≡ false).
      let same : after ≡ before = e ∙ simp f in
      one_more (rw same plane.size) (λ k other. rw same)
      (rw (same, f) (plane.clear n (omega arith) low)))
      (bool_cases (test n))

-- a node and its parts

-- what is judged of node a where the nodes below n are
unfoldable pub earlier_single : Program → ℕ → ℕ → Bool
earlier_single program n a =
    get_or (below (λ earlier k. single_of program (λ i. get_or earlier i false) (expression_at program k)) n) a false

unfoldable pub earlier_effect : Program → (ℕ → Statement) → ℕ → ℕ → Bool
earlier_effect program reading n a =
    get_or (below (λ earlier k. effect_of program (λ i. get_or earlier i false) (reading k)) n) a false

module _ (program : Program) (reading : ℕ → Statement) (n : ℕ) where
  single-once : single program n ≡ single_of program (earlier_single program n) (expression_of (node_at program n))
  unfolding single at_node earlier_single expression_at
  single-once = refl

  effect-once : effect program reading n ≡ effect_of program (earlier_effect program reading n) (reading n)
  unfolding effect at_node earlier_effect
  effect-once = refl

  -- the fact of the node from these; it computes once the kind is known
  unfoldable pub once : Node → Bool
  unfolding expression_of statement_of single_of effect_of
  once m =
      not (single_of program (earlier_single program n) (expression_of m)) || effect_of program (earlier_effect program reading n) (statement_of m)

  fact-once : reading n ≡ statement_at program n → fact program reading n ≡ once (node_at program n)
  unfolding fact once statement_at
  fact-once here = rw (single-once, effect-once, here)

  -- a node is of one sort

  pub fact-expression : (reading n ≡ statement_at program n) ⊎ (reading n ≡ nothing) → is_expression program n ≡ true → fact program reading n ≡ not (single program n)
  unfolding fact is_expression statement_at statement_of effect_of
  fact-expression either e =
      let low = leb-true (node_at program n).kind 12 e in
      let other : (node_at program n).kind - 16 ≡ 0 = omega arith in
      let free : effect program reading n ≡ false =
      effect-once
      ∙ ⊎_elim (λ (here : reading n ≡ statement_at program n). rw here (simp other)) (λ (dead : reading n ≡ nothing). rw dead)
      either in
      simp (free, or-false)

  pub fact-statement : is_statement program n ≡ true → fact program reading n ≡ effect program reading n
  unfolding fact is_statement expression_of single_of
  fact-statement e =
      let kind = (node_at program n).kind in
      let high = leb-true 16 kind (both_left (leb 16 kind) (leb kind last_statement) e) in
      let other : kind ≡ suc (suc (suc (suc (suc (suc (suc (suc (suc (suc (suc (suc (suc (kind - 13))))))))))))) = omega arith in
      let free : single program n ≡ true = single-once ∙ rw other in
      simp free

  single-fact : (reading n ≡ statement_at program n) ⊎ (reading n ≡ nothing) → is_expression program n ≡ true → single program n ≡ not (fact program reading n)
  single-fact either e = simp (fact-expression either e, not-not)

-- parts that lie below the node
module _ (program : Program) (n : ℕ) (reading : Reading program n (n + 1)) (a : ℕ) (l : a < n) where
  single-part : is_expression program a ≡ true → earlier_single program n a ≡ not (fact program reading.counts a)
  unfolding earlier_single single
  single-part e = below_at _ n a false l ∙ single-fact program reading.counts a (reading.each a) e

  effect-part : is_statement program a ≡ true → earlier_effect program reading.counts n a ≡ fact program reading.counts a
  unfolding earlier_effect effect
  effect-part e = below_at _ n a false l ∙ sym (fact-statement program reading.counts a e)

-- laws of tests

neither : (x y : Bool) → (not x && not y) ≡ not (x || y)
neither true y = refl
neither false y = refl

-- a rule that fails where two things hold
fails_both : (q n : ℕ) (x y : Bool) → failure q n (not x || not y) ≡ cond x (cond y (code q n) none) none
fails_both q n true true = refl
fails_both q n true false = refl
fails_both q n false y = refl

swapped : (x y : Bool) (p : ℕ) → cond x (cond y p none) none ≡ cond y (cond x p none) none
swapped true true p = refl
swapped true false p = refl
swapped false true p = refl
swapped false false p = refl

-- by kind
module _ (program : Program) (n : ℕ) (reading : Reading program n (n + 1)) where
  abbrev counts : ℕ → Statement
  counts = reading.counts

  abbrev kind : ℕ
  kind = (node_at program n).kind

  abbrev a : ℕ
  a = (node_at program n).a

  abbrev b : ℕ
  b = (node_at program n).b

  abbrev c : ℕ
  c = (node_at program n).c

  -- kinds whose parts do not matter

  pub fact_as : (k : ℕ) → kind ≡ k → fact program counts n ≡ once program counts n (record { kind = k; a = a; b = b; c = c })
  fact_as k e = fact-once program counts n (as_it_is reading) ∙ rw (← e) refl

  pub fact_1 : kind ≡ 1 → fact program counts n ≡ not (flagged program a)
  unfolding once
  fact_1 e = fact-once program counts n (as_it_is reading) ∙ simp (e, or-false)

  pub fact_17 : kind ≡ 17 → fact program counts n ≡ flagged program a
  unfolding once
  fact_17 e = fact-once program counts n (as_it_is reading) ∙ simp e

  pub fact_24 : kind ≡ 24 → fact program counts n ≡ true
  unfolding once
  fact_24 e = fact-once program counts n (as_it_is reading) ∙ simp e

  -- expressions of parts

  pub fact_5 : kind ≡ 5 → a < n → is_expression program a ≡ true → fact program counts n ≡ fact program counts a
  unfolding once
  fact_5 e l s = fact-once program counts n (as_it_is reading) ∙ simp (e, or-false, single-part program n reading a l s, not-not)

  pub fact-operation : 6 ≤ kind → kind ≤ 12 → a < n → b < n → is_expression program a ≡ true → is_expression program b ≡ true
      → fact program counts n ≡ (fact program counts a || fact program counts b)
  unfolding once
  fact-operation low high l m s t =
      let other : kind - 16 ≡ 0 = omega arith in
      let first = single-part program n reading a l s in
      let second = single-part program n reading b m t in
      fact-once program counts n (as_it_is reading)
      ∙ simp (operation_of (node_at program n) low high, other, or-false, first, second, neither, not-not)

  -- statements of parts

  pub fact_18 : kind ≡ 18 → a < n → b < n → is_statement program a ≡ true → is_statement program b ≡ true
      → fact program counts n ≡ (fact program counts a || fact program counts b)
  unfolding once
  fact_18 e l m s t = fact-once program counts n (as_it_is reading) ∙ simp (e, effect-part program n reading a l s, effect-part program n reading b m t)

  pub fact_19 : kind ≡ 19 → b < n → c < n → is_statement program b ≡ true → is_statement program c ≡ true
      → fact program counts n ≡ (fact program counts b || fact program counts c)
  unfolding once
  fact_19 e l m s t = fact-once program counts n (as_it_is reading) ∙ simp (e, effect-part program n reading b l s, effect-part program n reading c m t)

  pub fact_20 : kind ≡ 20 → b < n → is_statement program b ≡ true → fact program counts n ≡ fact program counts b
  unfolding once
  fact_20 e l s = fact-once program counts n (as_it_is reading) ∙ simp (e, effect-part program n reading b l s)

  -- the refusals by 13 to 16

  pub rule-none : (kind ≡ 17 → ⊥) → (kind ≡ 19 → ⊥) → (kind ≡ 20 → ⊥) → (kind ≡ 24 → ⊥) → guard_code program counts n ≡ none
  unfolding guard_code rule_code rule_of statement_at
  rule-none p q r s =
      simp (ne_eqb kind 20 r)
      (rw (as_it_is reading)
      (by_kind (λ t. failure (rule_of program counts t).question n (rule_of program counts t).holds ≡ none) (node_at program n)
      (λ e. absurd (p e)) (λ e. refl) (λ e. absurd (q e)) (λ e. absurd (r e)) (λ e. refl) (λ e. refl) (λ e. refl)
      (λ e. absurd (s e)) (λ e. refl) (λ e. refl) refl))

  pub rule_17 : kind ≡ 17 → is_expression program b ≡ true
      → guard_code program counts n ≡ cond (flagged program a) (cond (fact program counts b) (code 13 n) none) none
  unfolding guard_code rule_code rule_of statement_at statement_of
  rule_17 e s = simp (as_it_is reading, e, single-fact program counts b (reading.each b) s) (fails_both 13 n (flagged program a) (fact program counts b))

  pub rule_24 : kind ≡ 24 → is_expression program c ≡ true
      → guard_code program counts n ≡ cond (fact program counts c) (code 14 n) none
  unfolding guard_code rule_code rule_of statement_at statement_of
  rule_24 e s = simp (as_it_is reading, e, single-fact program counts c (reading.each c) s) (fails_both 14 n true (fact program counts c))

  pub rule_19 : kind ≡ 19 → is_expression program a ≡ true → is_statement program b ≡ true → is_statement program c ≡ true
      → guard_code program counts n ≡ cond (fact program counts b || fact program counts c) (cond (fact program counts a) (code 15 n) none) none
  unfolding guard_code rule_code rule_of statement_at statement_of
  rule_19 e s t u =
      simp (as_it_is reading, e, single-fact program counts a (reading.each a) s, ← fact-statement program counts b t, ← fact-statement program counts c u, neither)
      (fails_both 15 n (fact program counts a) (fact program counts b || fact program counts c)
      ∙ swapped (fact program counts a) (fact program counts b || fact program counts c) (code 15 n))

  pub rule_20 : kind ≡ 20 → is_expression program a ≡ true
      → guard_code program counts n ≡ cond (fact program counts n) (cond (fact program counts a) (code 16 n) none) none
  unfolding guard_code is_statement
  rule_20 e s =
      simp (e, single-fact program counts a (reading.each a) s, ← fact-statement program counts n (simp e))
      (fails_both 16 n (fact program counts a) (fact program counts n) ∙ swapped (fact program counts a) (fact program counts n) (code 16 n))
