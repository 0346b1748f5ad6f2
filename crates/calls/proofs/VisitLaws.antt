-- A visit of a node, by its kind: the statements that it has wait are nodes below it, and the lowest call so far.
use mathlib.Core.Bool.{true, false, cond}
use mathlib.Core.List.{List, [], ◌∷◌}
use mathlib.Core.Logic.{inl, inr, ⊎_elim}
use mathlib.Core.Path.{◌≡◌, refl}
use Prim.Native.Nat.{ℕ, ◌*◌, ◌≤◌, ◌<◌}
use native.Mathlib.Omega.{arith}
use lib.ListN.{length}
use borrow.Author.Tests.{lt-ltb, le-ltb}
use Rattle.rules.specs.declared.Node.{Node}
use Rattle.rules.specs.Table.{Program, decode, Statement, nodes, node_at, statement_of, statement_at}
use Rattle.rules.proofs.AnywhereLaws.{In}
use Rattle.rules.proofs.ChoiceLaws.{bool_cases}
use Rattle.rules.proofs.KindLaws.{sequence_of, branch_of, loop_of, call_of, statement-here, by_kind}
use Rattle.table.specs.declared.Header.{Header}
use Rattle.table.specs.Sized.{Sized}
use Rattle.table.specs.Marks.{with_bit, with_bits}
use Rattle.table.specs.Uses.{Fitting}
use Rattle.table.proofs.BitLaws.{bit-same}
use Rattle.calls.specs.Walk.{inner_statements, may_call, callers, waiting, calls_below}
use Rattle.calls.proofs.TreeLaws.{part_in_below}
use Rattle.calls.proofs.InnerLaws.{inner_in}

pub inner_below : (table : List ℕ) → Fitting table → (n a : ℕ) → n < nodes (decode table)
    → In a (inner_statements (statement_at (decode table) n)) → a < n
inner_below table f n a inside h = part_in_below table f n a inside (inner_in (decode table) n a h)

module _ (table : List ℕ) (n : ℕ) (m : Node) (read : m ≡ node_at (decode table) n) where
  module _ {header : Header} (s : Sized table header) (f : Fitting table) (inside : n < header.nodes) where
    fits : {s : Statement} (a : ℕ) → statement_of m ≡ s → In a (inner_statements s) → a < n
    fits a t h = inner_below table f n a (omega (arith, s.nodes-read)) (rw (statement-here (decode table) n m read t) h)

    pub sequence-fits : m.kind ≡ 18 → (m.a < n) × (m.b < n)
    unfolding inner_statements
    sequence-fits e = (fits m.a (sequence_of m e) (inl refl), fits m.b (sequence_of m e) (inr (inl refl)))

    pub branch_fits : m.kind ≡ 19 → (m.b < n) × (m.c < n)
    unfolding inner_statements
    branch_fits e = (fits m.b (branch_of m e) (inl refl), fits m.c (branch_of m e) (inr (inl refl)))

    pub loop-fits : m.kind ≡ 20 → m.b < n
    unfolding inner_statements
    loop-fits e = fits m.b (loop_of m e) (inl refl)

  -- what waits

  pub waits-sequence : m.kind ≡ 18 → waiting (decode table) n ≡ callers (decode table) (m.a ∷ m.b ∷ [])
  unfolding inner_statements
  waits-sequence e = rw (statement-here (decode table) n m read (sequence_of m e))

  pub waits-branch : m.kind ≡ 19 → waiting (decode table) n ≡ callers (decode table) (m.b ∷ m.c ∷ [])
  unfolding inner_statements
  waits-branch e = rw (statement-here (decode table) n m read (branch_of m e))

  pub waits-loop : m.kind ≡ 20 → waiting (decode table) n ≡ callers (decode table) (m.b ∷ [])
  unfolding inner_statements
  waits-loop e = rw (statement-here (decode table) n m read (loop_of m e))

  pub waits-other : (m.kind ≡ 18 → ⊥) → (m.kind ≡ 19 → ⊥) → (m.kind ≡ 20 → ⊥) → waiting (decode table) n ≡ []
  unfolding inner_statements callers
  waits-other h18 h19 h20 =
      rw (statement-here (decode table) n m read {s = statement_of m} refl)
      (by_kind (λ s. callers (decode table) (inner_statements s) ≡ []) m (λ e. refl) (λ e. absurd (h18 e)) (λ e. absurd (h19 e))
      (λ e. absurd (h20 e)) (λ e. refl) (λ e. refl) (λ e. refl) (λ e. refl) (λ e. refl) (λ e. refl) refl)

  -- the lowest call so far
  module _ (p low : ℕ) where
    pub called-below : m.kind ≡ 21 → m.a < p → low ≡ cond (calls_below p (statement_at (decode table) n)) low n
    unfolding calls_below
    called-below e l = rw (statement-here (decode table) n m read (call_of m e)) (simp (lt-ltb m.a p l))

    pub called-high : m.kind ≡ 21 → p ≤ m.a → n ≡ cond (calls_below p (statement_at (decode table) n)) low n
    unfolding calls_below
    called-high e l = rw (statement-here (decode table) n m read (call_of m e)) (simp (le-ltb m.a p l))

    pub called-none : (m.kind ≡ 21 → ⊥) → low ≡ cond (calls_below p (statement_at (decode table) n)) low n
    unfolding calls_below
    called-none other =
        rw (statement-here (decode table) n m read {s = statement_of m} refl)
        (by_kind (λ s. low ≡ cond (calls_below p s) low n) m (λ e. refl) (λ e. refl) (λ e. refl) (λ e. refl)
        (λ e. absurd (other e)) (λ e. refl) (λ e. refl) (λ e. refl) (λ e. refl) (λ e. refl) refl)

-- marks once the statements of a list wait that may hold a call
module _ (program : Program) (m : List ℕ) where
  pub one-waits : (a : ℕ) → may_call program a ≡ true → with_bits m (callers program (a ∷ [])) ≡ with_bit m a
  unfolding callers with_bits
  one-waits a e = simp e

  pub second-waits : (a b : ℕ) → may_call program b ≡ true
      → with_bits m (callers program (a ∷ b ∷ [])) ≡ with_bit (with_bits m (callers program (a ∷ []))) b
  unfolding callers with_bits
  second-waits a b e =
      ⊎_elim (λ (f : may_call program a ≡ true). simp (e, f)) (λ (f : may_call program a ≡ false). simp (e, f))
      (bool_cases (may_call program a))

  pub first-waits : (a b : ℕ) → may_call program b ≡ false → with_bits m (callers program (a ∷ b ∷ [])) ≡ with_bits m (callers program (a ∷ []))
  unfolding callers with_bits
  first-waits a b e =
      ⊎_elim (λ (f : may_call program a ≡ true). simp (e, f)) (λ (f : may_call program a ≡ false). simp (e, f))
      (bool_cases (may_call program a))

  pub none-waits : (a : ℕ) → may_call program a ≡ false → with_bits m (callers program (a ∷ [])) ≡ m
  unfolding callers with_bits
  none-waits a e = simp e

  -- a loop's body, which stands for both
  pub twice-waits : (a : ℕ) → a < 32 * length m → with_bits m (callers program (a ∷ a ∷ [])) ≡ with_bits m (callers program (a ∷ []))
  unfolding callers with_bits
  twice-waits a inside =
      ⊎_elim
      (λ (f : may_call program a ≡ true). simp f (unfold with_bit in simp (bit-same m a inside)))
      (λ (f : may_call program a ≡ false). simp f)
      (bool_cases (may_call program a))
