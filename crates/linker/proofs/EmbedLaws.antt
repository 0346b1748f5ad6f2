-- A program whose nodes, from a first one on, stand renumbered in another: what questions 9 and 26 say of a node holds of it
-- there too, and what is found from it down here is found there, and the other way round.
use mathlib.Core.Bool.{Bool, true, false, not}
use mathlib.Core.List.{List, [], ◌∷◌, ◌++◌, map, map-append}
use mathlib.Core.Logic.{inl, inr}
use mathlib.Core.Path.{◌≡◌, refl, sym, ◌∙◌, ap}
use Prim.Native.Nat.{ℕ, zero, suc, ◌≤◌, ◌<◌}
use native.Mathlib.Decide.{dec_lt}
use native.Mathlib.Omega.{arith}
use lib.Dec.{eqb}
use borrow.Author.Tests.{ltb-true, lt-ltb, eqb-false, eq-eqb, ne_eqb}
use Rattle.linker.specs.Linking.{renamed}
use Rattle.rules.specs.Choice.{first_failing, all_below}
use Rattle.rules.specs.Table.{Program, variables, procedures, nodes, flagged, effect_flag, node_at}
use Rattle.rules.specs.Table.{expression_of, statement_of, expression_at, statement_at, expression_operands, statement_operands}
use Rattle.rules.specs.Table.{nothing, is_leave}
use Rattle.rules.specs.Table.{Operand, variable_operand, procedure_operand, area_operand, expression_operand, statement_operand}
use Rattle.rules.specs.WellFormed.{is_expression, is_statement, kind_known, expression_part, statement_part, expression_fits}
use Rattle.rules.specs.WellFormed.{statement_fits, node_fits, operand_parts, expression_parts, statement_parts, parts_at}
use Rattle.rules.specs.WellFormed.{anywhere, in_tree, open_parts, openly, loop_around, nearest_loop, leave_enclosed}
use Rattle.rules.proofs.AnswerLaws.{both_true}
use Rattle.rules.proofs.AnywhereLaws.{In, anywhere_self, anywhere-part, by-anywhere}
use Rattle.rules.proofs.ChoiceLaws.{first_le, all-false}
use Rattle.rules.proofs.Formed.{Formed, statement-past}
use Rattle.rules.proofs.FormerLaws.{implies_or}
use Rattle.rules.proofs.LoopLaws.{statement-part, open_part, body-part, nearest_loop_lem}
use Rattle.rules.proofs.PartLaws.{EachFits, all_fit, expression-fits, statement-fits, part_low}
use Rattle.rules.proofs.PartLaws.{expression_part-below, expression_part-sort, statement_part-below, statement_part-sort}
use Rattle.linker.proofs.RenameLaws.{rename_expression, rename_statement, rename_operand, renames}
use Rattle.linker.proofs.RenameLaws.{expression_operands_lem, statement_operands_lem, expression-parts, statement-parts}
use Rattle.linker.proofs.RenameLaws.{open_renamed, leave-renamed}

-- t stands in j from its node `first` on, each node n as `to n`; what stands before is nothing, and no part
pub record Embeds (t j : Program) (to : ℕ → ℕ) (first : ℕ) : Type 0 where
  pub whole : Formed t
  pub node-to : (n : ℕ) → first ≤ n → n < nodes t → node_at j (to n) ≡ renamed to (node_at t n)
  pub parts_first : (n a : ℕ) → In a (parts_at t n) → first ≤ a
  pub front : (n : ℕ) → n < first → statement_at t n ≡ nothing
  pub rises : (a b : ℕ) → first ≤ a → a < b → to a < to b
  pub nodes_in : (n : ℕ) → first ≤ n → n < nodes t → to n < nodes j
  pub variables_in : variables t ≤ variables j
  pub procedures_in : procedures t ≤ procedures j
  pub flagged-to : (v : ℕ) → v < variables t → flagged j v ≡ flagged t v
  pub flag_to : (p : ℕ) → p < procedures t → effect_flag j p ≡ effect_flag t p

-- numbers that stand in a list

in_front : (xs ys : List ℕ) (a : ℕ) → In a xs → In a (xs ++ ys)
in_front [] ys a i = absurd i
in_front (x ∷ xs) ys a (inl e) = inl e
in_front (x ∷ xs) ys a (inr i) = inr (in_front xs ys a i)

in_map : (to : ℕ → ℕ) (xs : List ℕ) (a : ℕ) → In a xs → In (to a) (map to xs)
in_map to [] a i = absurd i
in_map to (x ∷ xs) a (inl e) = inl (ap to e)
in_map to (x ∷ xs) a (inr i) = inr (in_map to xs a i)

pub map_in : (to : ℕ → ℕ) (xs : List ℕ) (b : ℕ) → In b (map to xs) → (a : ℕ) × In a xs × (b ≡ to a)
map_in to [] b i = absurd i
map_in to (x ∷ xs) b (inl e) = (x, inl refl, e)
map_in to (x ∷ xs) b (inr i) = let (a, j, e) = map_in to xs b i in (a, inr j, e)

module _ {t j : Program} {to : ℕ → ℕ} {first : ℕ} (e : Embeds t j to first) where
  module _ (n : ℕ) (h : first ≤ n) (l : n < nodes t) where
    pub expression-to : expression_at j (to n) ≡ rename_expression to (expression_at t n)
    unfolding expression_at
    expression-to = ap expression_of (e.node-to n h l) ∙ (renames to (node_at t n)).0

    pub statement-to : statement_at j (to n) ≡ rename_statement to (statement_at t n)
    unfolding statement_at
    statement-to = ap statement_of (e.node-to n h l) ∙ (renames to (node_at t n)).1

    pub kind-to : (node_at j (to n)).kind ≡ (node_at t n).kind
    unfolding renamed
    kind-to = ap (λ m. m.kind) (e.node-to n h l)

    pub parts-to : parts_at j (to n) ≡ map to (parts_at t n)
    unfolding parts_at
    parts-to =
        rw (expression-to, statement-to, expression-parts to (expression_at t n), statement-parts to (statement_at t n))
        (sym (map-append to (expression_parts (expression_at t n)) (statement_parts (statement_at t n))))

    open_to : open_parts (statement_at j (to n)) ≡ map to (open_parts (statement_at t n))
    open_to = ap open_parts statement-to ∙ open_renamed to (statement_at t n)

    is_expression-to : is_expression j (to n) ≡ is_expression t n
    unfolding is_expression
    is_expression-to = rw kind-to

    pub is_statement-to : is_statement j (to n) ≡ is_statement t n
    unfolding is_statement
    is_statement-to = rw kind-to

    pub known-to : kind_known j (to n) ≡ kind_known t n
    unfolding kind_known
    known-to = rw (is_expression-to, is_statement-to)

  pub expression-part : (n a : ℕ) → In a (expression_parts (expression_at t n)) → In a (parts_at t n)
  unfolding parts_at
  expression-part n a i = in_front (expression_parts (expression_at t n)) (statement_parts (statement_at t n)) a i

  -- a statement that does something is renumbered
  pub stands : (n : ℕ) → (statement_at t n ≡ nothing → ⊥) → (first ≤ n) × (n < nodes t)
  stands n some =
      elim (dec_lt n first) [
        | yes l ↦ absurd (some (e.front n l))
        | no h ↦
            elim (dec_lt n (nodes t)) [
              | yes l ↦ (omega arith, l)
              | no m ↦ absurd (some (statement-past t e.whole n (omega arith)))
            ]
      ]

  pub same_number : (m n : ℕ) → first ≤ m → first ≤ n → eqb (to m) (to n) ≡ eqb m n
  same_number m n h g =
      elim (dec_lt m n) [
        | yes l ↦
            let r = e.rises m n h l in
            ne_eqb (to m) (to n) (λ x. omega arith) ∙ sym (ne_eqb m n (λ x. omega arith))
        | no a ↦
            elim (dec_lt n m) [
              | yes l ↦
                  let r = e.rises n m g l in
                  ne_eqb (to m) (to n) (λ x. omega arith) ∙ sym (ne_eqb m n (λ x. omega arith))
              | no b ↦ let same : m ≡ n = omega arith in eq-eqb (to m) (to n) (ap to same) ∙ sym (eq-eqb m n same)
            ]
      ]

  -- induction from the parts up to a node
  module _ (P : ℕ → Type 0)
      (step : (n : ℕ) → first ≤ n → n < nodes t → ((a : ℕ) → In a (parts_at t n) → P a) → P n) where
    below_parts : (k n : ℕ) → n < k → first ≤ n → n < nodes t → P n
    below_parts zero n b h l = absurd (omega arith)
    below_parts (suc k) n b h l =
        step n h l
        (λ a i. let low = part_low t e.whole n a i in below_parts k a (omega arith) (e.parts_first n a i) (omega arith))

    pub by_parts : (n : ℕ) → first ≤ n → n < nodes t → P n
    by_parts n h l = below_parts (suc n) n (omega arith) h l

  -- 9
  module _ (n : ℕ) (l : n < nodes t) where
    operands_to : (operands : List Operand) → ((a : ℕ) → In a (operand_parts operands) → first ≤ a) → EachFits t n operands
        → EachFits j (to n) (map (rename_operand to) operands)
    unfolding expression_part statement_part
    operands_to [] h f = tt
    operands_to (variable_operand a ∷ rest) h f =
        (lt-ltb a (variables j) (omega (arith, ltb-true a (variables t) f.0, e.variables_in)), operands_to rest h f.1)
    operands_to (procedure_operand p ∷ rest) h f =
        (lt-ltb p (procedures j) (omega (arith, ltb-true p (procedures t) f.0, e.procedures_in)), operands_to rest h f.1)
    operands_to (area_operand r ∷ rest) h f = (f.0, operands_to rest h f.1)
    operands_to (expression_operand a ∷ rest) h f =
        let low = expression_part-below t n a f.0 in
        let high = h a (inl refl) in (
          both_true _ _ (lt-ltb (to a) (to n) (e.rises a n high low))
              (is_expression-to a high (omega arith) ∙ expression_part-sort t n a f.0),
          operands_to rest (λ x i. h x (inr i)) f.1,
        )
    operands_to (statement_operand a ∷ rest) h f =
        let low = statement_part-below t n a f.0 in
        let high = h a (inl refl) in (
          both_true _ _ (lt-ltb (to a) (to n) (e.rises a n high low))
              (is_statement-to a high (omega arith) ∙ statement_part-sort t n a f.0),
          operands_to rest (λ x i. h x (inr i)) f.1,
        )

  pub expression_fits-to : (n : ℕ) → first ≤ n → n < nodes t → expression_fits j (to n) (expression_at j (to n)) ≡ true
  unfolding expression_fits expression_parts
  expression_fits-to n h l =
      rw (expression-to n h l, expression_operands_lem to (expression_at t n))
      (all_fit j (to n) true (map (rename_operand to) (expression_operands (expression_at t n))) refl
      (operands_to n l (expression_operands (expression_at t n)) (λ a i. e.parts_first n a (expression-part n a i))
      (expression-fits t e.whole n refl)))

  statement_fits-to : (n : ℕ) → first ≤ n → n < nodes t → statement_fits j (to n) (statement_at j (to n)) ≡ true
  unfolding statement_fits statement_parts
  statement_fits-to n h l =
      rw (statement-to n h l, statement_operands_lem to (statement_at t n))
      (all_fit j (to n) true (map (rename_operand to) (statement_operands (statement_at t n))) refl
      (operands_to n l (statement_operands (statement_at t n)) (λ a i. e.parts_first n a (statement-part t e.whole n a i))
      (statement-fits t e.whole n refl)))

  pub fits-to : (n : ℕ) → first ≤ n → n < nodes t → node_fits j (to n) ≡ true
  unfolding node_fits
  fits-to n h l = both_true _ _ (expression_fits-to n h l) (statement_fits-to n h l)

  -- what is found from a node down, by some of its parts
  module _ (parts parts' : ℕ → List ℕ) (inside : (n a : ℕ) → In a (parts n) → In a (parts_at t n))
      (there : (n : ℕ) → first ≤ n → n < nodes t → parts' (to n) ≡ map to (parts n)) (f g : ℕ → Bool) where
    anywhere-up : ((k : ℕ) → first ≤ k → g k ≡ true → f (to k) ≡ true)
        → (m : ℕ) → first ≤ m → m < nodes t → anywhere parts g m ≡ true → anywhere parts' f (to m) ≡ true
    anywhere-up imply m h l found =
        by-anywhere parts g (λ n. first ≤ n → n < nodes t → anywhere parts' f (to n) ≡ true)
        (λ n x h l. anywhere_self parts' f (to n) (imply n h x))
        (λ n a i low up h l.
        let high = e.parts_first n a (inside n a i) in
        anywhere-part parts' f (to n) (to a) (rw (there n h l) (in_map to (parts n) a i)) (e.rises a n high low)
        (up high (omega arith)))
        m found h l

    anywhere_down : ((k : ℕ) → first ≤ k → k < nodes t → f (to k) ≡ true → g k ≡ true)
        → (m : ℕ) → first ≤ m → m < nodes t → anywhere parts' f (to m) ≡ true → anywhere parts g m ≡ true
    anywhere_down imply m h l found =
        by-anywhere parts' f (λ y. (n : ℕ) → y ≡ to n → first ≤ n → n < nodes t → anywhere parts g n ≡ true)
        (λ y x n s h l. anywhere_self parts g n (imply n h l (rw s at x)))
        (λ y b i low down n s h l.
        let (a, k, s') = map_in to (parts n) b (rw (s, there n h l) at i) in
        let below = part_low t e.whole n a (inside n a k) in
        anywhere-part parts g n a k below (down a s' (e.parts_first n a (inside n a k)) (omega arith)))
        (to m) found m refl h l

  -- trees

  pub tree_up : (n m : ℕ) → first ≤ n → first ≤ m → m < nodes t → in_tree t n m ≡ true → in_tree j (to n) (to m) ≡ true
  tree_up n m g h l found =
      anywhere-up (parts_at t) (parts_at j) (λ k a i. i) parts-to (λ k. eqb k (to n)) (λ k. eqb k n)
      (λ k i x. same_number k n i g ∙ x) m h l found

  pub tree_down : (n m : ℕ) → first ≤ n → first ≤ m → m < nodes t → in_tree j (to n) (to m) ≡ true → in_tree t n m ≡ true
  tree_down n m g h l found =
      anywhere_down (parts_at t) (parts_at j) (λ k a i. i) parts-to (λ k. eqb k (to n)) (λ k. eqb k n)
      (λ k i b x. sym (same_number k n i g) ∙ x) m h l found

  -- tests that hold openly

  module _ (f g : ℕ → Bool) where
    openly-up : ((k : ℕ) → first ≤ k → g k ≡ true → f (to k) ≡ true)
        → (m : ℕ) → first ≤ m → m < nodes t → openly t g m ≡ true → openly j f (to m) ≡ true
    openly-up =
        anywhere-up (λ k. open_parts (statement_at t k)) (λ k. open_parts (statement_at j k)) (open_part t e.whole) open_to f g

    pub openly_down : ((k : ℕ) → first ≤ k → k < nodes t → f (to k) ≡ true → g k ≡ true)
        → (m : ℕ) → first ≤ m → m < nodes t → openly j f (to m) ≡ true → openly t g m ≡ true
    openly_down =
        anywhere_down (λ k. open_parts (statement_at t k)) (λ k. open_parts (statement_at j k)) (open_part t e.whole) open_to f g

  -- 26

  leave-to : (n : ℕ) → first ≤ n → n < nodes t → is_leave (statement_at j (to n)) ≡ is_leave (statement_at t n)
  leave-to n h l = ap is_leave (statement-to n h l) ∙ leave-renamed to (statement_at t n)

  nearest_to : (n : ℕ) → first ≤ n → nearest_loop t n < nodes t → nearest_loop j (to n) < nodes j
  unfolding nearest_loop loop_around rename_statement all_below
  nearest_to n g b =
      let (c, d, s, within) = nearest_loop_lem t e.whole n b in
      let w = nearest_loop t n in
      let (h, l) = stands w (λ x. let z : ◌≡◌ {A = ℕ} 0 1 = cc in omega arith) in
      let part = body-part t e.whole w c d s in
      let low = part_low t e.whole w d part in
      let there : openly j (λ k. eqb k (to n)) (to d) ≡ true =
      openly-up (λ k. eqb k (to n)) (λ k. eqb k n) (λ k i x. same_number k n i g ∙ x) d (e.parts_first w d part) (omega arith)
      within in
      let test : ℕ → Bool = λ x. not (loop_around j (to n) (statement_at j x)) in
      let around : test (to w) ≡ false = rw (statement-to w h l, s) (ap not there) in
      let fails = all-false test (nodes j) (to w) (e.nodes_in w h l) around in
      omega (arith, first_le test (nodes j), eqb-false (first_failing test (nodes j)) (nodes j) fails)

  pub enclosed-to : (n : ℕ) → first ≤ n → n < nodes t → leave_enclosed t n ≡ true → leave_enclosed j (to n) ≡ true
  unfolding leave_enclosed
  enclosed-to n h l =
      implies_or _ _ _ _ (λ x. ap not (leave-to n h l) ∙ x) (λ x. lt-ltb _ _ (nearest_to n h (ltb-true _ _ x)))
