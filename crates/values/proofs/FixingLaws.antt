-- What an expression is fixed as, by the node that it is: what `fixing` needs at each of its answers.
use Rattle.std.proofs.Common.{◌≡◌, ℕ, zero, suc, ◌+◌, ◌*◌, ◌<◌, ◌≤◌, sym, refl, ap, ◌∙◌, arith}
use Rattle.rules.specs.declared.Node.{Node}
use Rattle.rules.specs.Evaluation.{applied}
use Rattle.rules.specs.Judgement.{Fixing, fixed, unfixed, both_fixed, fixing_of, fixing}
use Rattle.rules.specs.Table.{Program, last_expression, node_at, expression_of, Expression, Operator, operation}
use Rattle.rules.proofs.Formed.{Formed}
use Rattle.rules.proofs.KindLaws.{expression-here}
use Rattle.rules.proofs.ValueLaws.{fixing-at}
use Rattle.values.specs.Given.{operator_of}
use Rattle.values.proofs.ExpressionLaws.{operator_of_lem}

unfixed-right : (o : Operator) (x : Fixing) → both_fixed o x unfixed ≡ unfixed
unfolding both_fixed
unfixed-right o (fixed x) = refl
unfixed-right o unfixed = refl

-- kinds 1 to 5
plain-kind : (part : ℕ → Fixing) (k a b c : ℕ) → (k ≡ 0 → ⊥) → k < 6
    → fixing_of part (expression_of (record { kind = k; a = a; b = b; c = c })) ≡ unfixed
unfolding expression_of fixing_of
plain-kind part zero a b c some few = absurd (some refl)
plain-kind part (suc zero) a b c some few = refl
plain-kind part (suc (suc zero)) a b c some few = refl
plain-kind part (suc (suc (suc zero))) a b c some few = refl
plain-kind part (suc (suc (suc (suc zero)))) a b c some few = refl
plain-kind part (suc (suc (suc (suc (suc zero))))) a b c some few = refl
plain-kind part (suc (suc (suc (suc (suc (suc k)))))) a b c some few = absurd (omega arith)

module _ (program : Program) (formed : Formed program) (n : ℕ) (m : Node) (here : m ≡ node_at program n) where
  fixing-here : (e : Expression) → expression_of m ≡ e → fixing program n ≡ fixing_of (fixing program) e
  fixing-here e t = fixing-at program formed n ∙ ap (fixing_of (fixing program)) (expression-here program n m here t)

  pub fixed-constant : m.kind ≡ 0 → {v : ℕ} → v ≡ m.b * 512 + m.c → fixed v ≡ fixing program n
  unfolding expression_of fixing_of
  fixed-constant e is = sym (fixing-here (expression_of m) refl ∙ rw (e, is) refl)

  pub fixed-none : (m.kind ≡ 0 → ⊥) → m.kind < 6 → unfixed ≡ fixing program n
  fixed-none some few =
      sym (fixing-here (expression_of m) refl ∙ plain-kind (fixing program) m.kind m.a m.b m.c some few)

  module _ (from : 6 ≤ m.kind) (to : m.kind ≤ last_expression) where
    operated : fixing program n ≡ both_fixed (operator_of m.kind) (fixing program m.a) (fixing program m.b)
    unfolding fixing_of
    operated = fixing-here (operation (operator_of m.kind) m.a m.b) (operator_of_lem m from to)

    -- the answers for the parts

    pub first-unfixed : unfixed ≡ fixing program m.a → unfixed ≡ fixing program n
    unfolding both_fixed
    first-unfixed e = sym (operated ∙ rw (← e) refl)

    pub second-unfixed : unfixed ≡ fixing program m.b → unfixed ≡ fixing program n
    second-unfixed e = sym (operated ∙ rw (← e) (unfixed-right (operator_of m.kind) (fixing program m.a)))

    pub fixed-operation : {x y v : ℕ} → fixed x ≡ fixing program m.a → fixed y ≡ fixing program m.b
        → v ≡ applied (operator_of m.kind) x y → fixed v ≡ fixing program n
    unfolding both_fixed
    fixed-operation e f is = sym (operated ∙ rw (← e, ← f, is) refl)
