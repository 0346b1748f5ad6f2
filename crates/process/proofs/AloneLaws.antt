-- Kinds 23 to 25 are the collectives, and other statements are none.
use mathlib.Core.Bool.{true, false}
use mathlib.Core.Path.{◌≡◌, refl, sym, ◌∙◌, ap}
use Prim.Native.Nat.{ℕ, ◌≤◌}
use lib.Dec.{leb}
use borrow.Author.Tests.{leb-true}
use Rattle.rules.specs.declared.Node.{Node}
use Rattle.rules.specs.Table.{Collective, nothing, statement_of, on_collective}
use Rattle.rules.proofs.AnswerLaws.{both_left, both_right}
use Rattle.rules.proofs.KindLaws.{by_kind}
use Rattle.rules.proofs.VisibleLaws.{contrary}
use Rattle.process.specs.Given.{is_collective}

pub collective_range : (k : ℕ) → is_collective k ≡ true → (23 ≤ k) × (k ≤ 25)
collective_range k t =
    (leb-true 23 k (both_left (leb 23 k) (leb k 25) t), leb-true k 25 (both_right (leb 23 k) (leb k 25) t))

module _ (m : Node) (f : is_collective m.kind ≡ false) where
  barred : {A : Type 0} (k : ℕ) → is_collective k ≡ true → m.kind ≡ k → A
  barred k t e = absurd (contrary (is_collective k) t (ap is_collective (sym e) ∙ f))

  -- what is said of a statement that is no collective
  pub alone-statement : {A : Type 0} (meet : Collective → A) (other : A) → on_collective (statement_of m) meet other ≡ other
  alone-statement meet other =
      by_kind (λ s. on_collective s meet other ≡ other) m (λ e. refl) (λ e. refl) (λ e. refl) (λ e. refl) (λ e. refl)
      (λ e. refl) (barred 23 refl) (barred 24 refl) (barred 25 refl) (λ e. refl) refl

  -- a node of none of the kinds that have work to do
  pub no-work : (m.kind ≡ 17 → ⊥) → (m.kind ≡ 18 → ⊥) → (m.kind ≡ 19 → ⊥) → (m.kind ≡ 20 → ⊥) → (m.kind ≡ 21 → ⊥)
      → (m.kind ≡ 22 → ⊥) → (m.kind ≡ 26 → ⊥)
      → statement_of m ≡ nothing
  no-work h17 h18 h19 h20 h21 h22 h26 =
      by_kind (λ s. s ≡ nothing) m (λ e. absurd (h17 e)) (λ e. absurd (h18 e)) (λ e. absurd (h19 e)) (λ e. absurd (h20 e))
      (λ e. absurd (h21 e)) (λ e. absurd (h22 e)) (barred 23 refl) (barred 24 refl) (barred 25 refl)
      (λ e. absurd (h26 e)) refl
