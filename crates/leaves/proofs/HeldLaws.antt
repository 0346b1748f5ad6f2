-- What a node holds and whether it is left locally, from its parts; and of a table without leaves.
use mathlib.Core.Bool.{true, false, ◌&&◌, ◌||◌}
use mathlib.Core.List.{[]}
use mathlib.Core.Logic.{⊎_elim}
use mathlib.Core.Path.{◌≡◌, refl, sym, ◌∙◌, ap}
use Prim.Native.Nat.{ℕ, ◌<◌}
use native.Mathlib.Decide.{dec_lt}
use native.Mathlib.Omega.{arith}
use Rattle.rules.specs.declared.Node.{Node}
use Rattle.rules.specs.Judgement.{holds_leave, local_if, left_locally}
use Rattle.rules.specs.Table.{Program, nodes, node_at, statement_at, statement_of, is_leave}
use Rattle.rules.specs.Table.{Statement, nothing}
use Rattle.rules.specs.WellFormed.{open_parts}
use Rattle.rules.proofs.AnswerLaws.{both_right}
use Rattle.rules.proofs.ChoiceLaws.{bool_cases}
use Rattle.rules.proofs.Formed.{Formed, statement-past}
use Rattle.rules.proofs.KindLaws.{by_kind, no-leave}
use Rattle.rules.proofs.AnywhereLaws.{any_of}
use Rattle.rules.proofs.LoopLaws.{openly-at, by_open}
use Rattle.table.proofs.TestLaws.{never}

-- kinds that are no leave and have no part in the same while
abbrev pub Plain : Program → Statement → Type 0
Plain program s = (is_leave s ≡ false) × (open_parts s ≡ []) × (local_if program s ≡ false)

pub plain : (program : Program) (m : Node) → (m.kind ≡ 18 → ⊥) → (m.kind ≡ 19 → ⊥) → (m.kind ≡ 26 → ⊥) → Plain program (statement_of m)
unfolding open_parts local_if
plain program m no18 no19 no26 =
    let so : Plain program nothing = (refl, refl, refl) in
    by_kind (Plain program) m (λ e. so) (λ e. absurd (no18 e)) (λ e. absurd (no19 e)) (λ e. so) (λ e. so) (λ e. so) (λ e. so)
    (λ e. so) (λ e. so) (λ e. absurd (no26 e)) so

module _ (program : Program) (formed : Formed program) where
  module _ (reading : ℕ → Statement) where
    pub holds_at : (n : ℕ)
        → holds_leave program reading n ≡ (is_leave (reading n) || any_of (holds_leave program reading) (open_parts (statement_at program n)))
    unfolding holds_leave
    holds_at n = openly-at program formed (λ k. is_leave (reading k)) n

    pub left_at : (n : ℕ)
        → left_locally program reading n
        ≡ ((local_if program (reading n) && holds_leave program reading n)
        || any_of (left_locally program reading) (open_parts (statement_at program n)))
    unfolding left_locally
    left_at n = openly-at program formed (λ k. local_if program (reading k) && holds_leave program reading k) n

  -- a table without leaves, by its kinds
  pub no-leaves : ((k : ℕ) → k < nodes program → (node_at program k).kind ≡ 26 → ⊥) → (k : ℕ) → is_leave (statement_at program k) ≡ false
  unfolding statement_at
  no-leaves none k =
      elim (dec_lt k (nodes program)) [
        | yes l ↦ no-leave (node_at program k) (none k l)
        | no m ↦ ap is_leave (statement-past program formed k (omega arith))
      ]

  -- where no leave counts, nothing holds one, and nothing is left locally
  module _ (reading : ℕ → Statement) (free : (k : ℕ) → is_leave (reading k) ≡ false) where
    pub none-held : (n : ℕ) → holds_leave program reading n ≡ false
    unfolding holds_leave
    none-held n =
        ⊎_elim
        (λ (e : holds_leave program reading n ≡ true).
        absurd (by_open program formed (λ k. is_leave (reading k)) (λ k. ⊥) (λ k h. never (sym h ∙ free k)) (λ k a i h. h) n e))
        (λ (e : holds_leave program reading n ≡ false). e)
        (bool_cases (holds_leave program reading n))

    pub none_left : (n : ℕ) → left_locally program reading n ≡ false
    unfolding left_locally
    none_left n =
        ⊎_elim
        (λ (e : left_locally program reading n ≡ true).
        absurd
        (by_open program formed (λ k. local_if program (reading k) && holds_leave program reading k) (λ k. ⊥)
        (λ k h. never (sym (both_right (local_if program (reading k)) (holds_leave program reading k) h) ∙ none-held k))
        (λ k a i h. h) n e))
        (λ (e : left_locally program reading n ≡ false). e)
        (bool_cases (left_locally program reading n))
