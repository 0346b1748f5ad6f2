-- The refusal by a node's rule from its two parts.
use mathlib.Core.Bool.{Bool, true, false, not, ◌&&◌, ◌||◌}
use mathlib.Core.Logic.{◌⊎◌, ⊎_elim}
use mathlib.Core.Path.{◌≡◌, refl, ◌∙◌, ap}
use Prim.Native.Nat.{ℕ, ◌≤◌, ◌<◌, min}
use native.Mathlib.Decide.{ℕ_discrete}
use native.Mathlib.Omega.{arith}
use borrow.Author.Tests.{eq-eqb, ne_eqb}
use Rattle.rules.specs.Acceptance.{rule_of}
use Rattle.rules.specs.Judgement.{single, effect_of, effect, left_locally}
use Rattle.rules.specs.Table.{Program, node_at, statement_at, Statement, nothing, loop}
use Rattle.rules.specs.WellFormed.{statement_fits}
use Rattle.rules.proofs.KindLaws.{loop_of}
use Rattle.rules.proofs.ValueLaws.{effect-here}
use Rattle.visit.specs.Facts.{rule_code, guard_code}
use Rattle.visit.specs.Least.{none, failure}
use Rattle.leaves.specs.Leaves.{left_code}

-- condition single and not left locally, or no effect: each of the two, or no effect
both_parts : (n : ℕ) → n < 65536 → (s l e : Bool)
    → min (failure 16 n (s || not e)) (failure 16 n (not l || not e)) ≡ failure 16 n ((s && not l) || not e)
both_parts n few true true true = omega arith
both_parts n few true true false = omega arith
both_parts n few true false e = omega arith
both_parts n few false true true = omega arith
both_parts n few false true false = omega arith
both_parts n few false false true = omega arith
both_parts n few false false false = omega arith

module _ (program : Program) (reading : ℕ → Statement) (n : ℕ) (few : n < 65536) where
  abbrev a : ℕ
  a = (node_at program n).a

  abbrev b : ℕ
  b = (node_at program n).b

  -- the two parts at a while
  abbrev parts : ℕ
  parts =
      min (failure 16 n (single program a || not (effect program reading n)))
      (failure 16 n (not (left_locally program reading b) || not (effect program reading n)))

  -- one that counts has its body's effect
  counted-loop : (node_at program n).kind ≡ 20 → statement_fits program n (statement_at program n) ≡ true → reading n ≡ statement_at program n
      → parts ≡ rule_code program reading n
  unfolding rule_code rule_of effect_of statement_at
  counted-loop e fits here =
      let is : reading n ≡ loop a b = here ∙ loop_of (node_at program n) e in
      let same : effect program reading n ≡ effect program reading b =
      effect-here program n reading (rw here fits) ∙ ap (effect_of program (effect program reading)) is in
      rw (is, same) (both_parts n few (single program a) (left_locally program reading b) (effect program reading b))

  unruled : (s : Bool) → failure 16 n (s || true) ≡ none
  unruled true = refl
  unruled false = refl

  -- one that does not count has none
  uncounted_loop : reading n ≡ nothing → parts ≡ rule_code program reading n
  unfolding rule_code rule_of effect_of statement_fits
  uncounted_loop dead =
      let free : effect program reading n ≡ false =
      effect-here program n reading (rw dead) ∙ ap (effect_of program (effect program reading)) dead in
      rw (dead, free)
      (both_parts n few (single program a) (left_locally program reading b) false
      ∙ unruled (single program a && not (left_locally program reading b)))

  pub rule-whole : ((k : ℕ) → (reading k ≡ statement_at program k) ⊎ (reading k ≡ nothing))
      → statement_fits program n (statement_at program n) ≡ true → rule_code program reading n ≤ none
      → min (guard_code program reading n) (left_code program reading n) ≡ rule_code program reading n
  unfolding guard_code left_code
  rule-whole each fits high =
      elim (ℕ_discrete (node_at program n).kind 20) [
        | yes e ↦
            simp (eq-eqb (node_at program n).kind 20 e) (⊎_elim (counted-loop e fits) uncounted_loop (each n))
        | no other ↦ simp (ne_eqb (node_at program n).kind 20 other) (omega arith)
      ]
