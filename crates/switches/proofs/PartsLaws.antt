-- The parts that are statements, and the branch that will never be taken, by a node's kind.
use mathlib.Core.Bool.{Bool, true, false, cond}
use mathlib.Core.List.{List, [], ◌∷◌}
use mathlib.Core.Path.{◌≡◌, refl, ◌∙◌, ap}
use Prim.Native.Nat.{ℕ, ◌<◌}
use native.Mathlib.Omega.{arith}
use Rattle.rules.specs.declared.Node.{Node}
use Rattle.rules.specs.Judgement.{Fixing, fixing}
use Rattle.rules.specs.Table.{Program, nodes, node_at, statement_at}
use Rattle.rules.specs.WellFormed.{is_expression, statement_part}
use Rattle.rules.proofs.Formed.{Formed}
use Rattle.rules.proofs.KindLaws.{by_kind, sequence_of, branch_of, loop_of, statement-here, sequence_fields, branch_fields, loop_fields}
use Rattle.rules.proofs.PartLaws.{statement_part-below, expression_part-below, expression_part-sort}
use Rattle.table.specs.Marks.{bit_at, with_bits}
use Rattle.switches.specs.Aside.{inner_parts, never_of, never_parts, aside_marks}

pub chosen-few : (test : Bool) {b c r : ℕ} → b < 256 → c < 256 → r ≡ cond test b c → r < 256
chosen-few true l m e = omega arith
chosen-few false l m e = omega arith

-- node n, read as m
module _ (program : Program) (formed : Formed program) (n : ℕ) (low : n < nodes program) (m : Node) (here : m ≡ node_at program n) where
  few : {a : ℕ} → statement_part program n a ≡ true → a < 256
  few {a} h = omega (arith, statement_part-below program n a h, formed.nodes-high)

  -- kind 18
  module _ (is : m.kind ≡ 18) where
    pub sequence-few : (m.a < 256) × (m.b < 256)
    sequence-few = let parts = sequence_fields program formed n m here is in (few parts.0, few parts.1)

    pub sequence-inner : inner_parts (statement_at program n) ≡ m.a ∷ m.b ∷ []
    unfolding inner_parts
    sequence-inner = ap inner_parts (statement-here program n m here (sequence_of m is))

  -- kind 19
  module _ (is : m.kind ≡ 19) where
    pub branch-few : (m.b < 256) × (m.c < 256)
    branch-few = let parts = branch_fields program formed n m here is in (few parts.1, few parts.2)

    pub branch-test : (m.a < nodes program) × (is_expression program m.a ≡ true)
    branch-test =
        let test = (branch_fields program formed n m here is).0 in
        (omega (arith, expression_part-below program n m.a test), expression_part-sort program n m.a test)

    pub branch-inner : inner_parts (statement_at program n) ≡ m.b ∷ m.c ∷ []
    unfolding inner_parts
    branch-inner = ap inner_parts (statement-here program n m here (branch_of m is))

    -- by what its condition is fixed as
    pub branch-never : {f : Fixing} → f ≡ fixing program m.a → never_parts program (statement_at program n) ≡ never_of f m.b m.c
    unfolding never_parts
    branch-never e = ap (never_parts program) (statement-here program n m here (branch_of m is)) ∙ rw e refl

  -- kind 20
  module _ (is : m.kind ≡ 20) where
    pub loop-few : m.b < 256
    loop-few = few (loop_fields program formed n m here is).1

    pub loop-inner : inner_parts (statement_at program n) ≡ m.b ∷ []
    unfolding inner_parts
    loop-inner = ap inner_parts (statement-here program n m here (loop_of m is))

-- any other
module _ (program : Program) (n : ℕ) where
  abbrev kind : ℕ
  kind = (node_at program n).kind

  pub other-inner : (kind ≡ 18 → ⊥) → (kind ≡ 19 → ⊥) → (kind ≡ 20 → ⊥) → inner_parts (statement_at program n) ≡ []
  unfolding inner_parts statement_at
  other-inner no18 no19 no20 =
      by_kind (λ s. inner_parts s ≡ []) (node_at program n) (λ e. refl) (λ e. absurd (no18 e)) (λ e. absurd (no19 e))
      (λ e. absurd (no20 e)) (λ e. refl) (λ e. refl) (λ e. refl) (λ e. refl) (λ e. refl) (λ e. refl) refl

  pub other-never : (kind ≡ 19 → ⊥) → never_parts program (statement_at program n) ≡ []
  unfolding never_parts statement_at
  other-never no19 =
      by_kind (λ s. never_parts program s ≡ []) (node_at program n) (λ e. refl) (λ e. refl) (λ e. absurd (no19 e)) (λ e. refl)
      (λ e. refl) (λ e. refl) (λ e. refl) (λ e. refl) (λ e. refl) (λ e. refl) refl

-- and nothing is marked at one below 18
pub plain-marks : (program : Program) (n : ℕ) (marks : List ℕ) → (node_at program n).kind < 18 → aside_marks program n marks ≡ marks
unfolding aside_marks with_bits
plain-marks program n marks low =
    rw (
      other-inner program n (λ e. omega (arith, e)) (λ e. omega (arith, e)) (λ e. omega (arith, e)),
      other-never program n (λ e. omega (arith, e)),
    )
    (same (bit_at marks n))
  where
    same : (test : Bool) → cond test marks marks ≡ marks
    same true = refl
    same false = refl
