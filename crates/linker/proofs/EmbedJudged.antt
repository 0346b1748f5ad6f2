-- Nodes that stand renumbered in another program are single and fixed there as here. One that is live there is live here, so it
-- has an effect, a leave or a local leave there only where it has it here, and a rule that holds of it here holds of it there.
use mathlib.Core.Bool.{Bool, true, false, cond, ◌&&◌}
use mathlib.Core.Logic.{inl, inr, ⊎_elim}
use mathlib.Core.Path.{◌≡◌, refl, sym, ◌∙◌, ap}
use Prim.Native.Nat.{ℕ, ◌≤◌, ◌<◌}
use native.Mathlib.Omega.{arith}
use lib.Dec.{eqb}
use borrow.Author.Tests.{ltb-true}
use Rattle.rules.specs.Acceptance.{rule_of}
use Rattle.rules.specs.Judgement.{single_of, single, fixing_of, fixing, live, counted, effect_of, holds_leave, local_if, left_locally}
use Rattle.rules.specs.Table.{Program, variables, procedures, nodes, expression_at, statement_at, is_leave}
use Rattle.rules.specs.Table.{expression_operands, statement_operands}
use Rattle.rules.specs.Table.{Expression, constant, variable, own_number, process_count, door, slot, operation}
use Rattle.rules.specs.Table.{Statement, nothing, assign, sequence, branch, loop, call, latch, collective, leave}
use Rattle.rules.specs.Table.{barrier, broadcast, exchange}
use Rattle.rules.specs.WellFormed.{expression_parts, statement_parts, parts_at}
use Rattle.rules.proofs.AnswerLaws.{both_left, both_right, both_true}
use Rattle.rules.proofs.AnywhereLaws.{In}
use Rattle.rules.proofs.ChoiceLaws.{bool_cases}
use Rattle.rules.proofs.Formed.{Formed}
use Rattle.rules.proofs.FormerLaws.{implies_or, still_if, still_while}
use Rattle.rules.proofs.LiveLaws.{effectful, leaving, counted-live, counted-dead, effect-live, effect-alive}
use Rattle.rules.proofs.LiveLaws.{Never, never-part, live-not, live-by}
use Rattle.rules.proofs.LoopLaws.{statement-part}
use Rattle.rules.proofs.PartLaws.{EachFits, expression-fits, statement-fits, part_low}
use Rattle.rules.proofs.ValueLaws.{single-here, fixing-here, single-at, fixing-at}
use Rattle.linker.proofs.EmbedLaws.{Embeds, expression-to, statement-to, expression-part, stands, by_parts}
use Rattle.linker.proofs.EmbedLaws.{expression_fits-to, tree_up, openly_down}
use Rattle.linker.proofs.RenameLaws.{rename_expression, rename_statement, rename_collective, leave-renamed}

cond-to : (to : ℕ → ℕ) (test : Bool) (a b : ℕ) → to (cond test a b) ≡ cond test (to a) (to b)
cond-to to true a b = refl
cond-to to false a b = refl

module _ {t j : Program} {to : ℕ → ℕ} {first : ℕ} (e : Embeds t j to first) where
  -- single

  single_of_lem : (n : ℕ) (x : Expression) → EachFits t n (expression_operands x)
      → ((a : ℕ) → In a (expression_parts x) → single j (to a) ≡ single t a)
      → single_of j (single j) (rename_expression to x) ≡ single_of t (single t) x
  unfolding rename_expression expression_parts single_of
  single_of_lem n (constant v) f h = refl
  single_of_lem n (variable a) f h = e.flagged-to a (ltb-true a (variables t) f.0)
  single_of_lem n own_number f h = refl
  single_of_lem n process_count f h = refl
  single_of_lem n (door a) f h = refl
  single_of_lem n (slot a r) f h = h a (inl refl)
  single_of_lem n (operation o a b) f h = rw (h a (inl refl), h b (inr (inl refl)))

  single-to : (n : ℕ) → first ≤ n → n < nodes t → single j (to n) ≡ single t n
  single-to =
      by_parts e (λ n. single j (to n) ≡ single t n)
      (λ n h l same.
      single-here j (to n) (expression_fits-to e n h l)
      ∙ (ap (single_of j (single j)) (expression-to e n h l)
      ∙ (single_of_lem n (expression_at t n) (expression-fits t e.whole n refl) (λ a i. same a (expression-part e n a i))
      ∙ sym (single-at t e.whole n))))

  -- fixed

  fixing_of_lem : (x : Expression) → ((a : ℕ) → In a (expression_parts x) → fixing j (to a) ≡ fixing t a)
      → fixing_of (fixing j) (rename_expression to x) ≡ fixing_of (fixing t) x
  unfolding rename_expression expression_parts fixing_of
  fixing_of_lem (constant v) h = refl
  fixing_of_lem (variable a) h = refl
  fixing_of_lem own_number h = refl
  fixing_of_lem process_count h = refl
  fixing_of_lem (door a) h = refl
  fixing_of_lem (slot a r) h = refl
  fixing_of_lem (operation o a b) h = rw (h a (inl refl), h b (inr (inl refl)))

  fixing-to : (n : ℕ) → first ≤ n → n < nodes t → fixing j (to n) ≡ fixing t n
  fixing-to =
      by_parts e (λ n. fixing j (to n) ≡ fixing t n)
      (λ n h l same.
      fixing-here j (to n) (expression_fits-to e n h l)
      ∙ (ap (fixing_of (fixing j)) (expression-to e n h l)
      ∙ (fixing_of_lem (expression_at t n) (λ a i. same a (expression-part e n a i)) ∙ sym (fixing-at t e.whole n))))

  -- a part of a statement is renumbered too
  part_range : (n a : ℕ) → n < nodes t → In a (parts_at t n) → (first ≤ a) × (a < nodes t)
  part_range n a l i = let low = part_low t e.whole n a i in (e.parts_first n a i, omega arith)

  module _ (there : Formed j) where
    -- a branch that is never taken here is never taken there, so a node that is live there is live here
    never-to : (k d : ℕ) → first ≤ k → k < nodes t → Never t e.whole k d → Never j there (to k) (to d)
    unfolding rename_statement statement_parts
    never-to k d h l never =
        let condition = never.condition in
        let part : In condition (parts_at t k) = statement-part t e.whole k condition (rw never.is (inl refl)) in
        let (g, m) = part_range k condition l part in
        record {
          condition = to condition;
          first = to never.first;
          second = to never.second;
          held = never.held;
          is = statement-to e k h l ∙ ap (rename_statement to) never.is;
          decided = fixing-to condition g m ∙ never.decided;
          never = ap to never.never ∙ cond-to to (eqb never.held 0) never.first never.second;
        }

    live_down : (n : ℕ) → first ≤ n → live j (to n) ≡ true → live t n ≡ true
    live_down n g alive =
        live-by t e.whole n
        (λ k d never i.
        let branches = never.is in
        let (h, l) = stands e k (λ x. let z : ◌≡◌ {A = ℕ} 0 1 = cc in omega arith) in
        let (hd, ld) = part_range k d l (never-part t e.whole k d never) in
        live-not j there (to n) (to k) (to d) alive (never-to k d h l never) (tree_up e n d g hd ld i))

    -- effects

    effect_of_lem : (n : ℕ) (s : Statement) → EachFits t n (statement_operands s)
        → ((a : ℕ) → In a (statement_parts s) → effectful j (to a) ≡ true → effectful t a ≡ true)
        → effect_of j (effectful j) (rename_statement to s) ≡ true → effect_of t (effectful t) s ≡ true
    unfolding rename_statement statement_parts effect_of
    effect_of_lem n nothing f h x = x
    effect_of_lem n (assign a b) f h x = sym (e.flagged-to a (ltb-true a (variables t) f.0)) ∙ x
    effect_of_lem n (sequence a b) f h x = implies_or _ _ _ _ (h a (inl refl)) (h b (inr (inl refl))) x
    effect_of_lem n (branch a b c) f h x = implies_or _ _ _ _ (h b (inr (inl refl))) (h c (inr (inr (inl refl)))) x
    effect_of_lem n (loop a b) f h x = h b (inr (inl refl)) x
    effect_of_lem n (call p) f h x = sym (e.flag_to p (ltb-true p (procedures t) f.0)) ∙ x
    effect_of_lem n (latch a b) f h x = x
    effect_of_lem n (collective k) f h x = x
    effect_of_lem n leave f h x = x

    pub effect_down : (n : ℕ) → first ≤ n → n < nodes t → effectful j (to n) ≡ true → effectful t n ≡ true
    effect_down =
        by_parts e (λ n. effectful j (to n) ≡ true → effectful t n ≡ true)
        (λ n h l down x.
        let alive = effect-alive j there (to n) x in
        effect-live t e.whole n (live_down n h alive)
        ∙ effect_of_lem n (statement_at t n) (statement-fits t e.whole n refl)
        (λ a i. down a (statement-part t e.whole n a i))
        (sym (ap (effect_of j (effectful j)) (statement-to e n h l)) ∙ (sym (effect-live j there (to n) alive) ∙ x)))

    -- what holds of nothing, and of a live statement renamed, holds of what the node counts as there
    by-counted : (P : Statement → Type 0) → P nothing → (n : ℕ) → first ≤ n → n < nodes t
        → (live t n ≡ true → P (rename_statement to (statement_at t n))) → P (counted j (to n))
    by-counted P none n h l some =
        ⊎_elim
        (λ (alive : live j (to n) ≡ true).
        rw (counted-live j (to n) alive, statement-to e n h l) (some (live_down n h alive)))
        (λ (dead : live j (to n) ≡ false). rw (counted-dead j (to n) dead) none)
        (bool_cases (live j (to n)))

    -- a test that fails nothing holds of what a node counts as there only if it holds of what it counts as here
    counted_down : (test test' : Statement → Bool) → test nothing ≡ false → (n : ℕ) → first ≤ n → n < nodes t
        → test (rename_statement to (statement_at t n)) ≡ test' (statement_at t n)
        → test (counted j (to n)) ≡ true → test' (counted t n) ≡ true
    counted_down test test' none n h l same =
        by-counted (λ s. test s ≡ true → test' (counted t n) ≡ true)
        (λ x. let z : ◌≡◌ {A = ℕ} 0 1 = cc in absurd (omega arith)) n h l
        (λ alive x. rw (counted-live t n alive) (sym same ∙ x))

    -- leaves

    leave_down : (n : ℕ) → first ≤ n → n < nodes t → leaving j (to n) ≡ true → leaving t n ≡ true
    unfolding holds_leave
    leave_down =
        openly_down e (λ k. is_leave (counted j k)) (λ k. is_leave (counted t k))
        (λ k h l. counted_down is_leave is_leave refl k h l (leave-renamed to (statement_at t k)))

    local_of : (m : ℕ) (s : Statement) → ((a : ℕ) → In a (statement_parts s) → single j (to a) ≡ single t a)
        → local_if j (rename_statement to s) ≡ local_if t s
    unfolding local_if rename_statement statement_parts
    local_of m nothing h = refl
    local_of m (assign a b) h = refl
    local_of m (sequence a b) h = refl
    local_of m (branch a b c) h = rw (h a (inl refl))
    local_of m (loop a b) h = refl
    local_of m (call p) h = refl
    local_of m (latch a b) h = refl
    local_of m (collective k) h = refl
    local_of m leave h = refl

    -- the parts of a statement that are single
    parts-single : (n : ℕ) → n < nodes t → (a : ℕ) → In a (statement_parts (statement_at t n)) → single j (to a) ≡ single t a
    parts-single n l a i =
        let (g, m) = part_range n a l (statement-part t e.whole n a i) in single-to a g m

    left_down : (n : ℕ) → first ≤ n → n < nodes t → left_locally j (counted j) (to n) ≡ true
        → left_locally t (counted t) n ≡ true
    unfolding left_locally local_if
    left_down =
        openly_down e (λ k. local_if j (counted j k) && leaving j k) (λ k. local_if t (counted t k) && leaving t k)
        (λ k h l x.
        both_true _ _
        (counted_down (local_if j) (local_if t) refl k h l (local_of k (statement_at t k) (parts-single k l)) (both_left _ _ x))
        (leave_down k h l (both_right (local_if j (counted j (to k))) _ x)))

    -- 13 to 16

    rule_of_lem : (s : Statement) → ((a : ℕ) → In a (statement_parts s) → (first ≤ a) × (a < nodes t)) → (n : ℕ)
        → EachFits t n (statement_operands s) → (rule_of t (counted t) s).holds ≡ true
        → (rule_of j (counted j) (rename_statement to s)).holds ≡ true
    unfolding rule_of rename_statement rename_collective statement_parts
    rule_of_lem nothing at n f r = refl
    rule_of_lem (assign a b) at n f r =
        let (h, l) = at b (inl refl) in
        rw (e.flagged-to a (ltb-true a (variables t) f.0), single-to b h l) r
    rule_of_lem (sequence a b) at n f r = refl
    rule_of_lem (branch a b c) at n f r =
        let (ha, la) = at a (inl refl) in
        let (hb, lb) = at b (inr (inl refl)) in
        let (hc, lc) = at c (inr (inr (inl refl))) in
        rw (single-to a ha la) (still_if (single t a) _ _ _ _ (effect_down b hb lb) (effect_down c hc lc) r)
    rule_of_lem (loop a b) at n f r =
        let (ha, la) = at a (inl refl) in
        let (hb, lb) = at b (inr (inl refl)) in
        rw (single-to a ha la) (still_while (single t a) _ _ _ _ (left_down b hb lb) (effect_down b hb lb) r)
    rule_of_lem (call p) at n f r = refl
    rule_of_lem (latch a b) at n f r = refl
    rule_of_lem (collective barrier) at n f r = refl
    rule_of_lem (collective (broadcast a b c)) at n f r = let (h, l) = at c (inr (inl refl)) in single-to c h l ∙ r
    rule_of_lem (collective (exchange a area)) at n f r = refl
    rule_of_lem leave at n f r = refl

    pub rule-to : ((n : ℕ) → live t n ≡ true → (rule_of t (counted t) (statement_at t n)).holds ≡ true) → (n : ℕ) → first ≤ n
        → n < nodes t → (rule_of j (counted j) (counted j (to n))).holds ≡ true
    unfolding rule_of
    rule-to rules n h l =
        by-counted (λ s. (rule_of j (counted j) s).holds ≡ true) refl n h l
        (λ alive.
        rule_of_lem (statement_at t n) (λ a i. part_range n a l (statement-part t e.whole n a i)) n
        (statement-fits t e.whole n refl) (rules n alive))
