-- A test that holds somewhere from a node down, by any notion of parts: the recursion unrolled once, and induction on it. Parts that
-- do not lie below the node that names them are passed over by the recursion, so only the way up asks that they do.
use mathlib.Core.Bool.{Bool, true, false, ◌||◌}
use mathlib.Core.List.{List, [], ◌∷◌}
use mathlib.Core.Logic.{◌⊎◌, inl, inr, ⊎_elim}
use mathlib.Core.Path.{◌≡◌, refl, sym, ◌∙◌, ap, subst}
use Prim.Native.Nat.{ℕ, zero, suc, ◌≤◌, ◌<◌}
use native.Mathlib.Decide.{dec_lt}
use native.Mathlib.Omega.{arith}
use lib.Dec.{eqb}
use lib.ListN.{length, get_or, get_or-eq_default}
use borrow.Author.Tests.{eq-eqb, eqb-true}
use Rattle.rules.specs.Below.{below, at_node}
use Rattle.rules.specs.WellFormed.{some_of, anywhere}
pub use Rattle.rules.specs.WellFormed.{Occurs as In}
use Rattle.rules.proofs.BelowLaws.{below_length, below_at}

pub either-right : (s t : Bool) → t ≡ true → (s || t) ≡ true
either-right true t e = refl
either-right false t e = e

pub either_cases : (s t : Bool) → (s || t) ≡ true → (s ≡ true) ⊎ (t ≡ true)
either_cases true t e = inl refl
either_cases false t e = inr e

some-found : (results : List Bool) (xs : List ℕ) → some_of results xs ≡ true → (a : ℕ) × In a xs × (get_or results a false ≡ true)
unfolding some_of
some-found results [] e = let z : ◌≡◌ {A = ℕ} 0 1 = cc in absurd (omega arith)
some-found results (x ∷ xs) e =
    ⊎_elim
    (λ (h : get_or results x false ≡ true). (x, inl refl, h))
    (λ (h : some_of results xs ≡ true). let (a, i, g) = some-found results xs h in (a, inr i, g))
    (either_cases (get_or results x false) (some_of results xs) e)

some_at : (results : List Bool) (xs : List ℕ) (a : ℕ) → In a xs → get_or results a false ≡ true → some_of results xs ≡ true
unfolding some_of
some_at results [] a i e = absurd i
some_at results (x ∷ xs) a (inl h) e = rw (← h) (simp e)
some_at results (x ∷ xs) a (inr i) e = either-right (get_or results x false) (some_of results xs) (some_at results xs a i e)

-- what is read as true stands in the list
true-inside : (results : List Bool) (a : ℕ) → get_or results a false ≡ true → a < length results
true-inside results a e =
    elim (dec_lt a (length results)) [
      | yes l ↦ l
      | no m ↦
          let past : length results ≤ a = omega arith in
          let out : get_or results a false ≡ false = get_or-eq_default results false {n = a} past in
          let z : ◌≡◌ {A = ℕ} 0 1 = cc in
          absurd (omega arith)
    ]

-- whether a test holds of a number of a list
abbrev pub any_of : (ℕ → Bool) → List ℕ → Bool
any_of test [] = false
any_of test (x ∷ xs) = test x || any_of test xs

some_any : (results : List Bool) (test : ℕ → Bool) (xs : List ℕ) → ((a : ℕ) → In a xs → get_or results a false ≡ test a)
    → some_of results xs ≡ any_of test xs
unfolding some_of
some_any results test [] same = refl
some_any results test (x ∷ xs) same = rw (same x (inl refl), some_any results test xs (λ a i. same a (inr i)))

module _ (parts : ℕ → List ℕ) where
  module _ (test : ℕ → Bool) where
    abbrev step : List Bool → ℕ → Bool
    step earlier k = test k || some_of earlier (parts k)

    -- the recursion, unrolled once
    pub anywhere-at : (m : ℕ) → ((a : ℕ) → In a (parts m) → a < m)
        → anywhere parts test m ≡ (test m || any_of (anywhere parts test) (parts m))
    unfolding anywhere at_node
    anywhere-at m low =
        ap (λ t. test m || t)
        (some_any (below step m) (at_node step) (parts m) (λ a i. below_at step m a false (low a i)))

    -- a part of m from which on down the test holds
    abbrev pub Below : ℕ → Type 0
    Below m = (a : ℕ) × In a (parts m) × (a < m) × (anywhere parts test a ≡ true)

    pub anywhere_cases : (m : ℕ) → anywhere parts test m ≡ true → (test m ≡ true) ⊎ Below m
    unfolding anywhere at_node
    anywhere_cases m e =
        ⊎_elim
        (λ (h : test m ≡ true). inl h)
        (λ (h : some_of (below step m) (parts m) ≡ true).
        let (a, i, g) = some-found (below step m) (parts m) h in
        let inside = true-inside (below step m) a g in
        let l : a < m = omega (arith, below_length step m) in
        inr (a, i, l, sym (below_at step m a false l) ∙ g))
        (either_cases (test m) (some_of (below step m) (parts m)) e)

    pub anywhere_self : (m : ℕ) → test m ≡ true → anywhere parts test m ≡ true
    unfolding anywhere at_node
    anywhere_self m e = simp e

    pub anywhere-part : (m a : ℕ) → In a (parts m) → a < m → anywhere parts test a ≡ true → anywhere parts test m ≡ true
    unfolding anywhere at_node
    anywhere-part m a i l e =
        either-right (test m) (some_of (below step m) (parts m))
        (some_at (below step m) (parts m) a i (below_at step m a false l ∙ e))

    -- what holds where the test does, and of a node where it holds of a part, holds wherever the test holds from there down
    module _ (P : ℕ → Type 0) (base : (n : ℕ) → test n ≡ true → P n)
        (part : (n a : ℕ) → In a (parts n) → a < n → P a → P n) where
      by-below : (k m : ℕ) → m < k → anywhere parts test m ≡ true → P m
      by-below zero m l e = absurd (omega arith)
      by-below (suc k) m l e =
          ⊎_elim
          (λ (h : test m ≡ true). base m h)
          (λ (found : Below m). let (a, i, low, g) = found in part m a i low (by-below k a (omega arith) g))
          (anywhere_cases m e)

      pub by-anywhere : (m : ℕ) → anywhere parts test m ≡ true → P m
      by-anywhere m e = by-below (suc m) m (omega arith) e

  -- node n stands in the tree of m by these parts
  abbrev pub Stands : ℕ → ℕ → Type 0
  Stands n m = anywhere parts (λ k. eqb k n) m ≡ true

  pub stands_self : (n : ℕ) → Stands n n
  stands_self n = anywhere_self (λ k. eqb k n) n (eq-eqb n n refl)

  -- a test that holds of n holds from what n stands in
  pub carried : (test : ℕ → Bool) (n m : ℕ) → test n ≡ true → Stands n m → anywhere parts test m ≡ true
  carried test n m t s =
      by-anywhere (λ k. eqb k n) (λ k. anywhere parts test k ≡ true)
      (λ k e. anywhere_self test k (rw (eqb-true k n e) t))
      (λ k a i l h. anywhere-part test k a i l h) m s

  -- a part stands where its node stands
  pub stands_down : (n a m : ℕ) → In a (parts n) → a < n → Stands n m → Stands a m
  stands_down n a m i l s =
      by-anywhere (λ k. eqb k n) (Stands a)
      (λ k e. rw (eqb-true k n e) (anywhere-part (λ k. eqb k a) n a i l (stands_self a)))
      (λ k b j low h. anywhere-part (λ k. eqb k a) k b j low h) m s

  -- a node of a tree is its root, or a part of a node of it
  abbrev pub Above : ℕ → ℕ → Type 0
  Above a m = (a ≡ m) ⊎ ((n : ℕ) × In a (parts n) × Stands n m)

  pub stands-above : (a m : ℕ) → Stands a m → Above a m
  stands-above a m s = by-anywhere (λ k. eqb k a) (Above a) (λ k e. inl (sym (eqb-true k a e))) up m s
    where
      up : (k b : ℕ) → In b (parts k) → b < k → Above a b → Above a k
      up k b i l (inl e) = inr (k, subst (λ x. In x (parts k)) (sym e) i, stands_self k)
      up k b i l (inr found) = let (n, j, h) = found in inr (n, j, anywhere-part (λ k. eqb k n) k b i l h)
