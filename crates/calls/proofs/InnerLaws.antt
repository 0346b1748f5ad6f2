-- The inner statements of a node: those of its parts that may hold a call are among them, and only four kinds have any or call.
use mathlib.Core.Bool.{true, false, ◌&&◌}
use mathlib.Core.List.{List, [], ◌∷◌}
use mathlib.Core.Logic.{inl, inr, ⊎_elim}
use mathlib.Core.Path.{◌≡◌, refl, sym, ◌∙◌}
use Prim.Native.Nat.{ℕ, ◌≤◌}
use native.Mathlib.Omega.{arith}
use lib.Dec.{leb}
use borrow.Author.Tests.{leb-true, le-leb}
use Rattle.rules.specs.declared.Node.{Node}
use Rattle.rules.specs.Table.{Program, node_at, statement_of, expression_at, statement_at}
use Rattle.rules.specs.Table.{Expression, constant, variable, own_number, process_count, door, slot, operation}
use Rattle.rules.specs.Table.{Statement, nothing, assign, sequence, branch, loop, call, latch, collective, leave}
use Rattle.rules.specs.Table.{barrier, broadcast, exchange, expression_operands, statement_operands}
use Rattle.rules.specs.WellFormed.{is_expression, expression_part, parts_at}
use Rattle.rules.specs.WellFormed.{expression_fits, statement_fits, node_fits, expression_parts, statement_parts}
use Rattle.rules.proofs.AnswerLaws.{both_left, both_right}
use Rattle.rules.proofs.AnywhereLaws.{In}
use Rattle.rules.proofs.ChoiceLaws.{bool_cases}
use Rattle.rules.proofs.KindLaws.{by_kind}
use Rattle.rules.proofs.PartLaws.{in_append, in_behind, expression_part-sort, EachFits, expression-fit, statement-fit}
use Rattle.table.proofs.TestLaws.{never}
use Rattle.calls.specs.Walk.{inner_statements, may_call, callers, calls_below}

-- they are parts
inner-part : (k : ℕ) (s : Statement) → In k (inner_statements s) → In k (statement_parts s)
unfolding inner_statements statement_parts
inner-part k nothing h = h
inner-part k (assign a b) h = absurd h
inner-part k (sequence a b) h = h
inner-part k (branch a b c) h = inr h
inner-part k (loop a b) h = inr h
inner-part k (call q) h = h
inner-part k (latch a b) h = absurd h
inner-part k (collective m) h = absurd h
inner-part k leave h = absurd h

pub inner_in : (program : Program) (n k : ℕ) → In k (inner_statements (statement_at program n)) → In k (parts_at program n)
unfolding parts_at
inner_in program n k h =
    in_behind (expression_parts (expression_at program n)) _ k (inner-part k (statement_at program n) h)

-- an expression holds no call
no_caller : (program : Program) (n : ℕ) → is_expression program n ≡ true → may_call program n ≡ true → ⊥
unfolding is_expression may_call
no_caller program n e s =
    let kind = (node_at program n).kind in
    omega (arith, leb-true kind 12 e, leb-true 18 kind (both_left (leb 18 kind) (leb kind 21) s))

-- and a part that may hold a call is one of them
module _ (program : Program) (n k : ℕ) (s : may_call program k ≡ true) where
  past : (a : ℕ) (xs : List ℕ) → expression_part program n a ≡ true → In k (a ∷ xs) → In k xs
  past a xs e (inl same) = absurd (no_caller program k (rw (← same) at (expression_part-sort program n a e)) s)
  past a xs e (inr rest) = rest

  no_part : (e : Expression) → EachFits program n (expression_operands e) → In k (expression_parts e) → In k []
  unfolding expression_parts
  no_part (constant v) fits h = h
  no_part (variable a) fits h = h
  no_part own_number fits h = h
  no_part process_count fits h = h
  no_part (door a) fits h = past a [] fits.0 h
  no_part (slot a r) fits h = past a [] fits.0 h
  no_part (operation o a b) fits h = past b [] fits.1.0 (past a (b ∷ []) fits.0 h)

  part-inner : (m : Statement) → EachFits program n (statement_operands m) → In k (statement_parts m) → In k (inner_statements m)
  unfolding statement_parts inner_statements
  part-inner nothing fits h = h
  part-inner (assign a b) fits h = past b [] fits.1.0 h
  part-inner (sequence a b) fits h = h
  part-inner (branch a b c) fits h = past a (b ∷ c ∷ []) fits.0 h
  part-inner (loop a b) fits h = past a (b ∷ []) fits.0 h
  part-inner (call q) fits h = h
  part-inner (latch a b) fits h = past b [] fits.1.0 (past a (b ∷ []) fits.0 h)
  part-inner (collective barrier) fits h = h
  part-inner (collective (broadcast a b c)) fits h = past c [] fits.1.1.0 (past b (c ∷ []) fits.1.0 h)
  part-inner (collective (exchange a r)) fits h = past a [] fits.0 h
  part-inner leave fits h = h

  pub in_inner : node_fits program n ≡ true → In k (parts_at program n) → In k (inner_statements (statement_at program n))
  unfolding node_fits parts_at
  in_inner fits h =
      let left = expression_fits program n (expression_at program n) in
      let right = statement_fits program n (statement_at program n) in
      let ours = expression_parts (expression_at program n) in
      let rest = statement_parts (statement_at program n) in
      ⊎_elim
      (λ (i : In k ours).
      absurd (no_part (expression_at program n) (expression-fit program n (expression_at program n) (both_left left right fits)) i))
      (λ (i : In k rest).
      part-inner (statement_at program n) (statement-fit program n (statement_at program n) (both_right left right fits)) i)
      (in_append ours rest k h)

-- those of a list that may hold a call
pub callers_in : (program : Program) (k : ℕ) (u : List ℕ) → In k (callers program u) → In k u
unfolding callers
callers_in program k [] h = h
callers_in program k (x ∷ u) h =
    ⊎_elim
    (λ (e : may_call program x ≡ true).
    ⊎_elim (λ (same : k ≡ x). inl same) (λ (rest : In k (callers program u)). inr (callers_in program k u rest)) (simp e at h))
    (λ (e : may_call program x ≡ false). inr (callers_in program k u (simp e at h)))
    (bool_cases (may_call program x))

pub in_callers : (program : Program) (k : ℕ) (u : List ℕ) → may_call program k ≡ true → In k u → In k (callers program u)
unfolding callers
in_callers program k [] t h = h
in_callers program k (x ∷ u) t (inl same) = let e : may_call program x ≡ true = rw same at t in simp e (inl same)
in_callers program k (x ∷ u) t (inr rest) =
    ⊎_elim
    (λ (e : may_call program x ≡ true). simp e (inr (in_callers program k u t rest)))
    (λ (e : may_call program x ≡ false). simp e (in_callers program k u t rest))
    (bool_cases (may_call program x))

-- what neither calls nor has inner statements
abbrev Quiet : Statement → Type 0
Quiet s = (inner_statements s ≡ []) × ((p : ℕ) → calls_below p s ≡ true)

module _ (m : Node) (h18 : m.kind ≡ 18 → ⊥) (h19 : m.kind ≡ 19 → ⊥) (h20 : m.kind ≡ 20 → ⊥) (h21 : m.kind ≡ 21 → ⊥) where
  pub quiet : Quiet (statement_of m)
  unfolding inner_statements calls_below
  quiet =
      let silent : Quiet nothing = (refl, λ p. refl) in
      by_kind Quiet m (λ e. silent) (λ e. absurd (h18 e)) (λ e. absurd (h19 e)) (λ e. absurd (h20 e)) (λ e. absurd (h21 e))
      (λ e. silent) (λ e. silent) (λ e. silent) (λ e. silent) (λ e. silent) silent

-- a node that holds no call
module _ (program : Program) (n : ℕ) (none : may_call program n ≡ false) where
  outside : (kind : ℕ) → 18 ≤ kind → kind ≤ 21 → (node_at program n).kind ≡ kind → ⊥
  unfolding may_call
  outside kind low high e =
      let own = (node_at program n).kind in
      let in-range : (leb 18 own && leb own 21) ≡ true =
      rw e (simp (le-leb 18 kind low, le-leb kind 21 high)) in
      never (sym in-range ∙ none)

  pub no_call : Quiet (statement_at program n)
  unfolding statement_at
  no_call =
      quiet (node_at program n) (outside 18 (omega arith) (omega arith)) (outside 19 (omega arith) (omega arith))
      (outside 20 (omega arith) (omega arith)) (outside 21 (omega arith) (omega arith))

  pub no_inner : (k : ℕ) → In k (inner_statements (statement_at program n)) → ⊥
  no_inner k h = rw no_call.0 at h
