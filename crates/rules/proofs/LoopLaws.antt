-- The nearest while around a node. Every node is used once, so a part has one node that names it: what stands in the same while
-- as a node has the same nearest while, a while's body has that while, and a procedure's body has none.
use mathlib.Core.Bool.{Bool, true, false, not, ◌||◌}
use mathlib.Core.List.{List, [], ◌∷◌, ◌++◌}
use mathlib.Core.Logic.{◌⊎◌, inl, inr, ⊎_elim}
use mathlib.Core.Path.{◌≡◌, refl, sym, ◌∙◌, ap, subst, fun_ext}
use Prim.Native.Nat.{ℕ, zero, suc, ◌+◌, ◌≤◌, ◌<◌}
use native.Mathlib.Decide.{dec_lt}
use native.Mathlib.Omega.{arith}
use lib.Dec.{eqb}
use borrow.Author.Tests.{eq-eqb, eqb-true}
use Rattle.rules.specs.Choice.{first_failing}
use Rattle.rules.specs.Table.{Program, procedures, nodes, body, expression_at, statement_at}
use Rattle.rules.specs.Table.{Statement, nothing, assign, sequence, branch, loop, call, latch, collective, leave}
use Rattle.rules.specs.WellFormed.{expression_parts, statement_parts, parts_at, joined, uses, occurrences}
use Rattle.rules.specs.WellFormed.{open_parts, openly, loop_around, nearest_loop}
use Rattle.rules.proofs.AnywhereLaws.{In, any_of, Below, anywhere-at, anywhere_cases, anywhere_self, anywhere-part, by-anywhere}
use Rattle.rules.proofs.AnywhereLaws.{carried, stands-above}
use Rattle.rules.proofs.ChoiceLaws.{first-none, first-at, first-fails}
use Rattle.rules.proofs.Formed.{Formed, expression-past, statement-past}
use Rattle.rules.proofs.PartLaws.{in_behind, part_low}

-- how often a number stands in a list

pub in_counted : (xs : List ℕ) (a : ℕ) → In a xs → 1 ≤ occurrences a xs
unfolding occurrences
in_counted [] a i = absurd i
in_counted (x ∷ xs) a (inl e) = rw (eq-eqb x a (sym e)) (omega arith)
in_counted (x ∷ xs) a (inr i) = omega (arith, in_counted xs a i)

pub counted_append : (xs ys : List ℕ) (a : ℕ) → occurrences a (xs ++ ys) ≡ occurrences a xs + occurrences a ys
unfolding occurrences
counted_append [] ys a = omega arith
counted_append (x ∷ xs) ys a = omega (arith, counted_append xs ys a)

module _ (list : ℕ → List ℕ) (a : ℕ) where
  pub joined-one : (n k : ℕ) → k < n → occurrences a (list k) ≤ occurrences a (joined list n)
  unfolding joined
  joined-one zero k l = absurd (omega arith)
  joined-one (suc n) k l =
      let split = counted_append (joined list n) (list n) a in
      elim (dec_lt k n) [
        | yes m ↦ omega (arith, joined-one n k m)
        | no m ↦ let e : k ≡ n = omega arith in rw e (omega arith)
      ]

  joined-two : (n j k : ℕ) → j < k → k < n
      → occurrences a (list j) + occurrences a (list k) ≤ occurrences a (joined list n)
  unfolding joined
  joined-two zero j k h l = absurd (omega arith)
  joined-two (suc n) j k h l =
      let split = counted_append (joined list n) (list n) a in
      elim (dec_lt k n) [
        | yes m ↦ omega (arith, joined-two n j k h m)
        | no m ↦ let e : k ≡ n = omega arith in rw e (omega (arith, joined-one n j (omega arith)))
      ]

-- a use is one as a part or one as a body
pub uses-counted : (program : Program) (a : ℕ) → occurrences a (uses program)
    ≡ occurrences a (joined (parts_at program) (nodes program))
    + occurrences a (joined (λ p. body program p ∷ []) (procedures program))
unfolding uses
uses-counted program a =
    counted_append (joined (parts_at program) (nodes program)) (joined (λ p. body program p ∷ []) (procedures program)) a

-- the parts that stand in the same while are parts
open_parts_lem : (s : Statement) (a : ℕ) → In a (open_parts s) → In a (statement_parts s)
unfolding open_parts statement_parts
open_parts_lem nothing a i = absurd i
open_parts_lem (assign b c) a i = absurd i
open_parts_lem (sequence b c) a i = i
open_parts_lem (branch b c d) a i = inr i
open_parts_lem (loop b c) a i = absurd i
open_parts_lem (call p) a i = absurd i
open_parts_lem (latch b c) a i = absurd i
open_parts_lem (collective k) a i = absurd i
open_parts_lem leave a i = absurd i

same_test : (s t : Bool) → (s ≡ true → t ≡ true) → (t ≡ true → s ≡ true) → s ≡ t
same_test true t f g = sym (f refl)
same_test false true f g = g refl
same_test false false f g = refl

pub failing : (t : Bool) → (t ≡ true → ⊥) → not t ≡ true
failing true f = absurd (f refl)
failing false f = refl

module _ (program : Program) (formed : Formed program) where
  -- a stands in the same while as the statement n that names it
  abbrev pub OpenPart : ℕ → ℕ → Type 0
  OpenPart a n = In a (open_parts (statement_at program n))

  pub statement-part : (n a : ℕ) → In a (statement_parts (statement_at program n)) → In a (parts_at program n)
  unfolding parts_at
  statement-part n a i = in_behind (expression_parts (expression_at program n)) (statement_parts (statement_at program n)) a i

  pub open_part : (n a : ℕ) → OpenPart a n → In a (parts_at program n)
  open_part n a i = statement-part n a (open_parts_lem (statement_at program n) a i)

  -- a node past the last has no parts
  pub named-below : (n a : ℕ) → In a (parts_at program n) → n < nodes program
  unfolding parts_at expression_parts statement_parts
  named-below n a i =
      elim (dec_lt n (nodes program)) [
        | yes l ↦ l
        | no m ↦
            let high : nodes program ≤ n = omega arith in
            let none : In a [] =
            rw (expression-past program formed n high, statement-past program formed n high) at i in
            absurd none
      ]

  -- a part is named by one node, and is no procedure's body
  named-twice : (m n a : ℕ) → m < n → In a (parts_at program m) → In a (parts_at program n) → ⊥
  named-twice m n a h i j =
      let l = named-below n a j in
      let low = part_low program formed n a j in
      let once = formed.used-once a (omega arith) in
      omega (
        arith,
        uses-counted program a,
        joined-two (parts_at program) a (nodes program) m n h l,
        in_counted (parts_at program m) a i,
        in_counted (parts_at program n) a j,
      )

  pub one_name : (m n a : ℕ) → In a (parts_at program m) → In a (parts_at program n) → m ≡ n
  one_name m n a i j =
      elim (dec_lt m n) [
        | yes l ↦ absurd (named-twice m n a l i j)
        | no g ↦
            elim (dec_lt n m) [
              | yes l ↦ absurd (named-twice n m a l j i)
              | no h ↦ omega arith
            ]
      ]

  pub part-no_body : (n p : ℕ) → p < procedures program → In (body program p) (parts_at program n) → ⊥
  part-no_body n p h i =
      let once = formed.used-once (body program p) (formed.body_below p h) in
      omega (
        arith,
        uses-counted program (body program p),
        joined-one (parts_at program) (body program p) (nodes program) n (named-below n (body program p) i),
        in_counted (parts_at program n) (body program p) i,
        joined-one (λ q. body program q ∷ []) (body program p) (procedures program) p h,
        in_counted (body program p ∷ []) (body program p) (inl refl),
      )

  -- two procedures have two bodies
  pub one-body : (p q : ℕ) → p < q → q < procedures program → body program p ≡ body program q → ⊥
  one-body p q h l e =
      let a = body program q in
      let once = formed.used-once a (formed.body_below q l) in
      omega (
        arith,
        uses-counted program a,
        joined-two (λ r. body program r ∷ []) a (procedures program) p q h l,
        in_counted (body program p ∷ []) a (inl (sym e)),
        in_counted (body program q ∷ []) a (inl refl),
      )

  -- a test that holds openly
  open_low : (m a : ℕ) → OpenPart a m → a < m
  open_low m a i = part_low program formed m a (open_part m a i)

  module _ (test : ℕ → Bool) where
    -- the recursion, unrolled once
    pub openly-at : (m : ℕ)
        → openly program test m ≡ (test m || any_of (openly program test) (open_parts (statement_at program m)))
    openly-at m = anywhere-at (λ k. open_parts (statement_at program k)) test m (open_low m)

    pub openly_cases : (m : ℕ) → openly program test m ≡ true
        → (test m ≡ true) ⊎ ((a : ℕ) × OpenPart a m × (openly program test a ≡ true))
    openly_cases m e =
        ⊎_elim (λ (h : test m ≡ true). inl h)
        (λ (found : Below (λ k. open_parts (statement_at program k)) test m). let (a, i, l, h) = found in inr (a, i, h))
        (anywhere_cases (λ k. open_parts (statement_at program k)) test m e)

    pub openly_self : (m : ℕ) → test m ≡ true → openly program test m ≡ true
    openly_self m e = anywhere_self (λ k. open_parts (statement_at program k)) test m e

    pub openly-part : (m a : ℕ) → OpenPart a m → openly program test a ≡ true → openly program test m ≡ true
    openly-part m a i e = anywhere-part (λ k. open_parts (statement_at program k)) test m a i (open_low m a i) e

    pub by_open : (P : ℕ → Type 0) → ((n : ℕ) → test n ≡ true → P n) → ((n a : ℕ) → OpenPart a n → P a → P n)
        → (m : ℕ) → openly program test m ≡ true → P m
    by_open P base part m e =
        by-anywhere (λ k. open_parts (statement_at program k)) test P base (λ n a i l h. part n a i h) m e

  -- n stands in the tree of m and in no while of that tree
  abbrev pub OpenIn : ℕ → ℕ → Type 0
  OpenIn n m = openly program (λ k. eqb k n) m ≡ true

  abbrev here : ℕ → ℕ → Bool
  here n k = eqb k n

  -- a test that holds of n holds openly of what n stands in
  pub open_carried : (test : ℕ → Bool) (n m : ℕ) → test n ≡ true → OpenIn n m → openly program test m ≡ true
  open_carried test n m t o = carried (λ k. open_parts (statement_at program k)) test n m t o

  -- a node that stands in another is it, or a part of one that does
  above : (a m : ℕ) → OpenIn a m → (a ≡ m) ⊎ ((n : ℕ) × OpenPart a n × OpenIn n m)
  above a m o = stands-above (λ k. open_parts (statement_at program k)) a m o

  -- a while around a node
  around_of : (s : Statement) (n : ℕ) → loop_around program n s ≡ true → (a b : ℕ) × (s ≡ loop a b) × OpenIn n b
  unfolding loop_around
  around_of nothing n e = let z : ◌≡◌ {A = ℕ} 0 1 = cc in absurd (omega arith)
  around_of (assign a b) n e = let z : ◌≡◌ {A = ℕ} 0 1 = cc in absurd (omega arith)
  around_of (sequence a b) n e = let z : ◌≡◌ {A = ℕ} 0 1 = cc in absurd (omega arith)
  around_of (branch a b c) n e = let z : ◌≡◌ {A = ℕ} 0 1 = cc in absurd (omega arith)
  around_of (loop a b) n e = (a, b, refl, e)
  around_of (call p) n e = let z : ◌≡◌ {A = ℕ} 0 1 = cc in absurd (omega arith)
  around_of (latch a b) n e = let z : ◌≡◌ {A = ℕ} 0 1 = cc in absurd (omega arith)
  around_of (collective k) n e = let z : ◌≡◌ {A = ℕ} 0 1 = cc in absurd (omega arith)
  around_of leave n e = let z : ◌≡◌ {A = ℕ} 0 1 = cc in absurd (omega arith)

  abbrev around : ℕ → ℕ → Bool
  around w n = loop_around program n (statement_at program w)

  around-loop : (w n a b : ℕ) → statement_at program w ≡ loop a b → OpenIn n b → around w n ≡ true
  unfolding loop_around
  around-loop w n a b s o = rw s o

  -- a while's body is a part of it, and no part that stands in the same while
  pub body-part : (w a b : ℕ) → statement_at program w ≡ loop a b → In b (parts_at program w)
  unfolding statement_parts
  body-part w a b s = statement-part w b (rw s (inr (inl refl)))

  loop_open : (w a b c : ℕ) → statement_at program w ≡ loop a b → OpenPart c w → ⊥
  unfolding open_parts
  loop_open w a b c s i = rw s at i

  -- what stands in the same while has the same whiles around it
  around_down : (w n a : ℕ) → OpenPart a n → around w n ≡ true → around w a ≡ true
  around_down w n a i e =
      let (c, b, s, o) = around_of (statement_at program w) n e in
      around-loop w a c b s
      (by_open (here n) (λ k. OpenIn a k)
      (λ k h. rw (eqb-true k n h) (openly-part (here a) n a i (openly_self (here a) a (eq-eqb a a refl))))
      (λ k x j h. openly-part (here a) k x j h) b o)

  around-up : (w n a : ℕ) → OpenPart a n → around w a ≡ true → around w n ≡ true
  around-up w n a i e =
      let (c, b, s, o) = around_of (statement_at program w) a e in
      ⊎_elim
      (λ (h : a ≡ b).
      let same : w ≡ n = one_name w n a (subst (λ x. In x (parts_at program w)) (sym h) (body-part w c b s)) (open_part n a i) in
      absurd (loop_open w c b a s (subst (OpenPart a) (sym same) i)))
      (λ (found : (m : ℕ) × OpenPart a m × OpenIn m b).
      let (m, j, q) = found in
      let same : m ≡ n = one_name m n a (open_part m a j) (open_part n a i) in
      around-loop w n c b s (subst (λ x. OpenIn x b) same q))
      (above a b o)

  pub nearest_part : (n a : ℕ) → OpenPart a n → nearest_loop program a ≡ nearest_loop program n
  unfolding nearest_loop
  nearest_part n a i =
      ap (λ test. first_failing test (nodes program))
      (fun_ext (λ w. ap not (same_test (around w a) (around w n) (around-up w n a i) (around_down w n a i))))

  -- a while's body has that while around it, and no other
  around-body : (w n a b : ℕ) → statement_at program n ≡ loop a b → around w b ≡ true → w ≡ n
  around-body w n a b s e =
      let (c, d, t, o) = around_of (statement_at program w) b e in
      ⊎_elim
      (λ (h : b ≡ d).
      one_name w n b (subst (λ x. In x (parts_at program w)) (sym h) (body-part w c d t)) (body-part n a b s))
      (λ (found : (m : ℕ) × OpenPart b m × OpenIn m d).
      let (m, j, q) = found in
      let same : m ≡ n = one_name m n b (open_part m b j) (body-part n a b s) in
      absurd (loop_open n a b b s (subst (OpenPart b) same j)))
      (above b d o)

  pub nearest_body : (n a b : ℕ) → statement_at program n ≡ loop a b → nearest_loop program b ≡ n
  unfolding nearest_loop
  nearest_body n a b s =
      first-at (λ w. not (around w b)) (nodes program) n (named-below n b (body-part n a b s))
      (λ w l. failing (around w b) (λ e. omega (arith, around-body w n a b s e)))
      (ap not (around-loop n b a b s (openly_self (here b) b (eq-eqb b b refl))))

  -- a node that is no while's body and no part in the same while has none
  pub nearest_none : (n : ℕ) → ((m : ℕ) → OpenPart n m → ⊥) → ((w a : ℕ) → statement_at program w ≡ loop a n → ⊥)
      → nearest_loop program n ≡ nodes program
  unfolding nearest_loop
  nearest_none n closed bare = first-none (λ w. not (around w n)) (nodes program) (λ w h. failing (around w n) (none w))
    where
      none : (w : ℕ) → around w n ≡ true → ⊥
      none w e =
          let (c, d, t, o) = around_of (statement_at program w) n e in
          ⊎_elim
          (λ (h : n ≡ d). bare w c (t ∙ ap (loop c) (sym h)))
          (λ (found : (m : ℕ) × OpenPart n m × OpenIn m d). closed found.0 found.1)
          (above n d o)

  -- nor has one that no node names
  pub nearest_unnamed : (n : ℕ) → ((m : ℕ) → In n (parts_at program m) → ⊥) → nearest_loop program n ≡ nodes program
  nearest_unnamed n unnamed =
      nearest_none n (λ m i. unnamed m (open_part m n i)) (λ w a s. unnamed w (body-part w a n s))

  -- nor has a procedure's body
  pub nearest_procedure : (p : ℕ) → p < procedures program → nearest_loop program (body program p) ≡ nodes program
  nearest_procedure p l = nearest_unnamed (body program p) (λ m i. part-no_body m p l i)

  -- the nearest while, where there is one, is a while with the node in its body
  pub nearest_loop_lem : (n : ℕ) → nearest_loop program n < nodes program
      → (a b : ℕ) × (statement_at program (nearest_loop program n) ≡ loop a b) × OpenIn n b
  nearest_loop_lem n l = around_of (statement_at program (nearest_loop program n)) n (found l)
    where
      denied : (b : Bool) → not b ≡ false → b ≡ true
      denied true e = refl
      denied false e = sym e

      found : nearest_loop program n < nodes program → around (nearest_loop program n) n ≡ true
      found = unfold nearest_loop in λ h. denied _ (first-fails (λ w. not (around w n)) (nodes program) h)

-- entries, highest first, among which w lies, with nothing above it but what has w for its nearest while
abbrev pub Within : Program → ℕ → List ℕ → Type 0
Within program w [] = ⊥
Within program w (e ∷ entries) = (e ≡ w) ⊎ ((nearest_loop program e ≡ w) × Within program w entries)

-- a node whose nearest while lies so below it
abbrev pub Inside : Program → ℕ → List ℕ → Type 0
Inside program n entries = nearest_loop program n < nodes program → Within program (nearest_loop program n) entries

-- by the nearest while alone
pub inside_near : (program : Program) (n m : ℕ) (entries : List ℕ) → nearest_loop program m ≡ nearest_loop program n
    → Inside program n entries → Inside program m entries
inside_near program n m entries e inside =
    subst (λ w. w < nodes program → Within program w entries) (sym e) inside

pub inside-same : (program : Program) (n m : ℕ) (entries others : List ℕ) → n ≡ m → entries ≡ others
    → Inside program m others → Inside program n entries
inside-same program n m entries others e f inside =
    subst (λ x. Inside program x entries) (sym e) (subst (Inside program m) (sym f) inside)
