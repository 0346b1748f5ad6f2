-- A fixed expression has its fixed value in every environment, and is single.
use mathlib.Core.Bool.{true}
use mathlib.Core.Path.{◌≡◌, refl, sym, ◌∙◌, ap, subst}
use Prim.Native.Nat.{ℕ, zero, suc, ◌<◌}
use native.Mathlib.Omega.{arith}
use Rattle.rules.specs.Evaluation.{Environment, applied, value_of, value}
use Rattle.rules.specs.Judgement.{single_of, single, Fixing, fixed, unfixed, both_fixed, fixing_of, fixing}
use Rattle.rules.specs.Switches.{FixedValue, FixedSingle}
use Rattle.rules.specs.Table.{Program, decode, Operator, expression_at}
use Rattle.rules.specs.Table.{Expression, constant, variable, own_number, process_count, door, slot, operation}
use Rattle.rules.proofs.Formed.{Formed, formed}
use Rattle.rules.proofs.PartLaws.{expression_part-below, expression-fits}
use Rattle.rules.proofs.ValueLaws.{value-at, single-at, fixing-at}

-- both parts of a fixed operation are fixed
pub record Both (o : Operator) (x y : Fixing) (v : ℕ) : Type 0 where
  pub left : ℕ
  pub right : ℕ
  pub left-fixed : x ≡ fixed left
  pub right-fixed : y ≡ fixed right
  pub is : applied o left right ≡ v

both_fixed_lem : (o : Operator) (x y : Fixing) (v : ℕ) → both_fixed o x y ≡ fixed v → Both o x y v
unfolding both_fixed
both_fixed_lem o (fixed x) (fixed y) v e = record { left = x; right = y; left-fixed = refl; right-fixed = refl; is = cc }
both_fixed_lem o (fixed x) unfixed v e = let z : ◌≡◌ {A = ℕ} 0 1 = cc in absurd (omega arith)
both_fixed_lem o unfixed y v e = let z : ◌≡◌ {A = ℕ} 0 1 = cc in absurd (omega arith)

-- what holds of constants, and of an operation where it holds of its parts, holds of every fixed expression
module _ (program : Program) (well : Formed program) (P : ℕ → ℕ → Type 0)
    (of-constant : (n v : ℕ) → expression_at program n ≡ constant v → P n v)
    (of-operation : (n : ℕ) (o : Operator) (a b x y : ℕ) → expression_at program n ≡ operation o a b → P a x → P b y
    → P n (applied o x y)) where
  fixed_of : (n v : ℕ) (e : Expression) → expression_at program n ≡ e
      → fixing_of (fixing program) e ≡ fixed v → ((a u : ℕ) → a < n → fixing program a ≡ fixed u → P a u) → P n v
  unfolding fixing_of
  fixed_of n v (constant w) is e inner = let same : w ≡ v = cc in of-constant n v (is ∙ ap constant same)
  fixed_of n v (variable a) is e inner = let z : ◌≡◌ {A = ℕ} 0 1 = cc in absurd (omega arith)
  fixed_of n v own_number is e inner = let z : ◌≡◌ {A = ℕ} 0 1 = cc in absurd (omega arith)
  fixed_of n v process_count is e inner = let z : ◌≡◌ {A = ℕ} 0 1 = cc in absurd (omega arith)
  fixed_of n v (door a) is e inner = let z : ◌≡◌ {A = ℕ} 0 1 = cc in absurd (omega arith)
  fixed_of n v (slot a r) is e inner = let z : ◌≡◌ {A = ℕ} 0 1 = cc in absurd (omega arith)
  fixed_of n v (operation o a b) is e inner =
      let parts = both_fixed_lem o (fixing program a) (fixing program b) v e in
      let fit = expression-fits program well n is in
      let left = expression_part-below program n a fit.0 in
      let right = expression_part-below program n b fit.1.0 in
      subst (P n) parts.is
      (of-operation n o a b parts.left parts.right is (inner a parts.left left parts.left-fixed)
      (inner b parts.right right parts.right-fixed))

  fixed-below : (k n v : ℕ) → n < k → fixing program n ≡ fixed v → P n v
  fixed-below zero n v l e = absurd (omega arith)
  fixed-below (suc k) n v l e =
      fixed_of n v (expression_at program n) refl (sym (fixing-at program well n) ∙ e)
      (λ a u m t. fixed-below k a u (omega arith) t)

  by-fixed : (n v : ℕ) → fixing program n ≡ fixed v → P n v
  by-fixed n v e = fixed-below (suc n) n v (omega arith) e

module _ (program : Program) (well : Formed program) where
  pub fixed_value_in : (env : Environment) (n v : ℕ) → fixing program n ≡ fixed v → value program env n ≡ v
  unfolding value_of
  fixed_value_in env =
      by-fixed program well (λ n v. value program env n ≡ v) (λ n v e. value-at program well env n ∙ rw e)
      (λ n o a b x y e l r. value-at program well env n ∙ rw (e, l, r))

  pub fixed_single_in : (n v : ℕ) → fixing program n ≡ fixed v → single program n ≡ true
  unfolding single_of
  fixed_single_in =
      by-fixed program well (λ n v. single program n ≡ true) (λ n v e. single-at program well n ∙ rw e)
      (λ n o a b x y e l r. single-at program well n ∙ rw (e, l, r))

pub fixed-value : FixedValue
fixed-value table accepted env n v e = fixed_value_in (decode table) (formed table accepted) env n v e

pub fixed-single : FixedSingle
fixed-single table accepted n v e = fixed_single_in (decode table) (formed table accepted) n v e
