-- Question 26 by the bodies: where no procedure's body holds a leave outside every while, each leave has a while around it. So a
-- pass from the parts up need only look at the bodies.
use mathlib.Core.Bool.{true, false}
use mathlib.Core.List.{List, [], ◌∷◌}
use mathlib.Core.Logic.{◌≢◌, ◌⊎◌, inl, inr, ⊎_elim}
use mathlib.Core.Path.{◌≡◌, refl, sym, ◌∙◌, ap, subst}
use Prim.Native.Nat.{ℕ, zero, suc, ◌+◌, ◌-◌, ◌≤◌, ◌<◌}
use native.Mathlib.Decide.{dec_lt, ℕ_discrete}
use native.Mathlib.Omega.{arith}
use borrow.Author.Tests.{leb-true, ne_eqb}
use Rattle.rules.specs.Judgement.{holds_leave}
use Rattle.rules.specs.Table.{Program}
use Rattle.rules.specs.Table.{procedures, nodes, body, node_at, statement_of, expression_at, statement_at, is_leave}
use Rattle.rules.specs.Table.{Expression, constant, variable, own_number, process_count, door, slot, operation}
use Rattle.rules.specs.Table.{Statement, nothing, assign, sequence, branch, loop, call, latch, collective, leave}
use Rattle.rules.specs.Table.{barrier, broadcast, exchange, expression_operands, statement_operands}
use Rattle.rules.specs.WellFormed.{is_expression, expression_parts, statement_parts, parts_at, joined, uses, occurrences}
use Rattle.rules.specs.WellFormed.{open_parts, nearest_loop}
use Rattle.rules.proofs.Formed.{Formed, Enclosed, statement-past}
use Rattle.rules.proofs.AnywhereLaws.{In}
use Rattle.rules.proofs.LoopLaws.{OpenPart, openly_self, openly-part}
use Rattle.rules.proofs.LoopLaws.{named-below, nearest_part, nearest_body}
use Rattle.rules.proofs.PartLaws.{in_append, in_one, in_joined, part_low}
use Rattle.rules.proofs.PartLaws.{expression_part-sort, EachFits, expression-fits, statement-fits}

pub counted_in : (xs : List ℕ) (a : ℕ) → 1 ≤ occurrences a xs → In a xs
unfolding occurrences
counted_in [] a h = absurd (omega arith)
counted_in (x ∷ xs) a h =
    elim (ℕ_discrete x a) [
      | yes e ↦ inl (sym e)
      | no n ↦
          let rest : 1 ≤ 0 + occurrences a xs = simp (ne_eqb x a n) at h in
          inr (counted_in xs a (omega arith))
    ]

module _ (program : Program) (n : ℕ) where
  -- the parts of an expression are expressions
  expression-sort : (e : Expression) (a : ℕ) → EachFits program n (expression_operands e) → In a (expression_parts e)
      → is_expression program a ≡ true
  unfolding expression_parts
  expression-sort (constant v) a h i = absurd i
  expression-sort (variable v) a h i = absurd i
  expression-sort own_number a h i = absurd i
  expression-sort process_count a h i = absurd i
  expression-sort (door x) a h (inl e) = rw e (expression_part-sort program n x h.0)
  expression-sort (door x) a h (inr i) = absurd i
  expression-sort (slot x r) a h (inl e) = rw e (expression_part-sort program n x h.0)
  expression-sort (slot x r) a h (inr i) = absurd i
  expression-sort (operation o x y) a h (inl e) = rw e (expression_part-sort program n x h.0)
  expression-sort (operation o x y) a h (inr (inl e)) = rw e (expression_part-sort program n y h.1.0)
  expression-sort (operation o x y) a h (inr (inr i)) = absurd i

  -- a part of a statement is an expression, stands in the same while, or is a while's body
  abbrev pub Sorted : Statement → ℕ → Type 0
  Sorted s a = (is_expression program a ≡ true) ⊎ (In a (open_parts s) ⊎ ((c : ℕ) × (s ≡ loop c a)))

  statement-sort : (s : Statement) (a : ℕ) → EachFits program n (statement_operands s) → In a (statement_parts s) → Sorted s a
  unfolding statement_parts open_parts
  statement-sort nothing a h i = absurd i
  statement-sort (assign x y) a h (inl e) = inl (rw e (expression_part-sort program n y h.1.0))
  statement-sort (assign x y) a h (inr i) = absurd i
  statement-sort (sequence x y) a h i = inr (inl i)
  statement-sort (branch x y z) a h (inl e) = inl (rw e (expression_part-sort program n x h.0))
  statement-sort (branch x y z) a h (inr i) = inr (inl i)
  statement-sort (loop x y) a h (inl e) = inl (rw e (expression_part-sort program n x h.0))
  statement-sort (loop x y) a h (inr (inl e)) = inr (inr (x, ap (loop x) (sym e)))
  statement-sort (loop x y) a h (inr (inr i)) = absurd i
  statement-sort (call p) a h i = absurd i
  statement-sort (latch x y) a h (inl e) = inl (rw e (expression_part-sort program n x h.0))
  statement-sort (latch x y) a h (inr (inl e)) = inl (rw e (expression_part-sort program n y h.1.0))
  statement-sort (latch x y) a h (inr (inr i)) = absurd i
  statement-sort (collective barrier) a h i = absurd i
  statement-sort (collective (broadcast x y z)) a h (inl e) = inl (rw e (expression_part-sort program n y h.1.0))
  statement-sort (collective (broadcast x y z)) a h (inr (inl e)) = inl (rw e (expression_part-sort program n z h.1.1.0))
  statement-sort (collective (broadcast x y z)) a h (inr (inr i)) = absurd i
  statement-sort (collective (exchange x r)) a h (inl e) = inl (rw e (expression_part-sort program n x h.0))
  statement-sort (collective (exchange x r)) a h (inr i) = absurd i
  statement-sort leave a h i = absurd i

  -- an expression reads as nothing
  pub expression-nothing : is_expression program n ≡ true → statement_at program n ≡ nothing
  unfolding is_expression statement_at statement_of
  expression-nothing e =
      let low : (node_at program n).kind - 16 ≡ 0 = omega (arith, leb-true (node_at program n).kind 12 e) in
      rw low

module _ (program : Program) (formed : Formed program) where
  -- a node is a part of a node or a procedure's body
  pub user : (n : ℕ) → n < nodes program
      → ((m : ℕ) × In n (parts_at program m)) ⊎ ((p : ℕ) × (p < procedures program) × (n ≡ body program p))
  unfolding uses
  user n l =
      let parts = joined (parts_at program) (nodes program) in
      let bodies = joined (λ p. body program p ∷ []) (procedures program) in
      ⊎_elim
      (λ (h : In n parts). let (m, b, i) = in_joined (parts_at program) n (nodes program) h in inl (m, i))
      (λ (h : In n bodies).
      let (p, b, i) = in_joined (λ p. body program p ∷ []) n (procedures program) h in
      inr (p, b, in_one n (body program p) i))
      (in_append parts bodies n (counted_in (uses program) n (omega (arith, formed.used-once n l))))

  -- a part is an expression, stands in the same while, or is a while's body
  pub part-sorted : (m n : ℕ) → In n (parts_at program m) → Sorted program m (statement_at program m) n
  unfolding parts_at
  part-sorted m n i =
      ⊎_elim
      (λ (h : In n (expression_parts (expression_at program m))).
      inl (expression-sort program m (expression_at program m) n (expression-fits program formed m refl) h))
      (λ (h : In n (statement_parts (statement_at program m))).
      statement-sort program m (statement_at program m) n (statement-fits program formed m refl) h)
      (in_append (expression_parts (expression_at program m)) (statement_parts (statement_at program m)) n i)

  -- and one that is a statement stands in the same while, or is a while's body
  part-sort : (m n : ℕ) → statement_at program n ≢ nothing → In n (parts_at program m)
      → OpenPart program formed n m ⊎ ((c : ℕ) × (statement_at program m ≡ loop c n))
  part-sort m n some i =
      ⊎_elim
      (λ (e : is_expression program n ≡ true). absurd (some (expression-nothing program n e)))
      (λ (e : In n (open_parts (statement_at program m)) ⊎ ((c : ℕ) × (statement_at program m ≡ loop c n))). e)
      (part-sorted m n i)

  open_some : (s : Statement) (a : ℕ) → In a (open_parts s) → s ≢ nothing
  unfolding open_parts
  open_some s a i e = subst (λ t. In a (open_parts t)) e i

  held-part : (m n : ℕ) → OpenPart program formed n m → holds_leave program (statement_at program) n ≡ true → holds_leave program (statement_at program) m ≡ true
  unfolding holds_leave
  held-part m n i h = openly-part program formed (λ k. is_leave (statement_at program k)) m n i h

  module _ (bodies : (p : ℕ) → p < procedures program → holds_leave program (statement_at program) (body program p) ≡ false) where
    -- up from a statement that holds a leave
    climbed : (k n : ℕ) → nodes program ≤ n + k → n < nodes program → statement_at program n ≢ nothing → holds_leave program (statement_at program) n ≡ true
        → nearest_loop program n < nodes program
    climbed zero n far l some held = absurd (omega arith)
    climbed (suc k) n far l some held =
        ⊎_elim
        (λ (found : (m : ℕ) × In n (parts_at program m)).
        let (m, i) = found in
        let low = part_low program formed m n i in
        let high = named-below program formed m n i in
        ⊎_elim
        (λ (o : OpenPart program formed n m).
        rw (nearest_part program formed m n o)
        (climbed k m (omega arith) high (open_some (statement_at program m) n o) (held-part m n o held)))
        (λ (b : (c : ℕ) × (statement_at program m ≡ loop c n)). rw (nearest_body program formed m b.0 n b.1) high)
        (part-sort m n some i))
        (λ (found : (p : ℕ) × (p < procedures program) × (n ≡ body program p)).
        let (p, b, e) = found in
        let none : holds_leave program (statement_at program) n ≡ false = ap (holds_leave program (statement_at program)) e ∙ bodies p b in
        let z : ◌≡◌ {A = ℕ} 0 1 = cc in
        absurd (omega arith))
        (user n l)

    pub bodies-enclosed : Enclosed program
    unfolding holds_leave
    bodies-enclosed n s =
        elim (dec_lt n (nodes program)) [
          | yes l ↦
              climbed (nodes program) n (omega arith) l (λ e. let z : ◌≡◌ {A = ℕ} 0 1 = cc in omega arith)
              (openly_self program formed (λ k. is_leave (statement_at program k)) n (rw s))
          | no m ↦
              let past = statement-past program formed n (omega arith) in
              let z : ◌≡◌ {A = ℕ} 0 1 = cc in
              absurd (omega arith)
        ]
