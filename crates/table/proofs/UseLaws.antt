-- Laws of marks over a list of nodes: a node is marked where it occurs, and the lowest node marked twice.
use mathlib.Core.Bool.{true, false, cond, ◌||◌, or-false, or-true}
use mathlib.Core.List.{List, [], ◌∷◌, ◌++◌}
use mathlib.Core.Logic.{◌⊎◌, inl, inr, ⊎_elim}
use mathlib.Core.Path.{◌≡◌, refl, sym, ◌∙◌}
use Prim.Native.Nat.{ℕ, ◌+◌, ◌*◌, ◌≤◌, ◌<◌, min}
use native.Mathlib.Decide.{dec_lt, ℕ_discrete}
use native.Mathlib.Nat.{zero-add}
use native.Mathlib.Omega.{arith}
use lib.Dec.{ltb, eqb}
use lib.ListN.{length}
use borrow.Author.Tests.{eq-eqb, ne_eqb, lt-ltb}
use Rattle.rules.proofs.ChoiceLaws.{bool_cases}
use Rattle.rules.specs.WellFormed.{occurrences}
use Rattle.table.specs.Marks.{bit_at, with_bit, with_bits}
use Rattle.table.specs.Uses.{noted, repeated}
use Rattle.table.proofs.BitLaws.{length-with_bit, bit-same, bit-other}

-- one list after another
pub bits_append : (m a b : List ℕ) → with_bits m (a ++ b) ≡ with_bits (with_bits m a) b
unfolding with_bits
bits_append m [] b = refl
bits_append m (n ∷ a) b = bits_append (with_bit m n) a b

pub repeated_append : (m : List ℕ) (low : ℕ) (a b : List ℕ)
    → repeated m low (a ++ b) ≡ repeated (with_bits m a) (repeated m low a) b
unfolding with_bits repeated
repeated_append m low [] b = refl
repeated_append m low (n ∷ a) b = repeated_append (with_bit m n) (noted m low n) a b

pub length-with_bits : (m u : List ℕ) → length (with_bits m u) ≡ length m
unfolding with_bits
length-with_bits m [] = refl
length-with_bits m (n ∷ u) = length-with_bits (with_bit m n) u ∙ length-with_bit m n

-- a node's count: 1 where it is marked already, and its occurrences in a list
abbrev pub marked : List ℕ → ℕ → ℕ
marked m k = cond (bit_at m k) 1 0

module _ (m : List ℕ) (n : ℕ) where
  marked-same : n < 32 * length m → marked (with_bit m n) n ≡ 1
  marked-same l = simp (bit-same m n l)

  marked_other : (k : ℕ) → (k ≡ n → ⊥) → marked (with_bit m n) k ≡ marked m k
  marked_other k other = simp (bit-other m n k other)

marked-low : (m : List ℕ) (k : ℕ) → marked m k ≤ 1
marked-low m k =
    ⊎_elim (λ (e : bit_at m k ≡ true). simp e (omega arith)) (λ (e : bit_at m k ≡ false). simp e (omega arith))
    (bool_cases (bit_at m k))

-- marking moves one occurrence into the marks, unless the node was marked: then it is lost
step_other : (m : List ℕ) (n k : ℕ) (u : List ℕ) → (k ≡ n → ⊥)
    → marked m k + occurrences k (n ∷ u) ≡ marked (with_bit m n) k + occurrences k u
unfolding occurrences
step_other m n k u other =
    let apart : eqb n k ≡ false = ne_eqb n k (λ e. other (sym e)) in
    simp (marked_other m n k other, apart) (omega arith)

step_same : (m : List ℕ) (n : ℕ) (u : List ℕ) → n < 32 * length m
    → marked m n + occurrences n (n ∷ u) ≡ marked m n + (marked (with_bit m n) n + occurrences n u)
unfolding occurrences
step_same m n u l = simp (marked-same m n l, eq-eqb n n refl)

noted-fresh : (m : List ℕ) (low n : ℕ) → bit_at m n ≡ false → noted m low n ≡ low
unfolding noted
noted-fresh m low n e = simp e

noted-again : (m : List ℕ) (low n : ℕ) → bit_at m n ≡ true → noted m low n ≡ min n low
unfolding noted
noted-again m low n e = simp e

-- the lowest node marked twice: nothing below it is counted twice, and it is, unless it is the bound that was there before
pub record Lowest (m : List ℕ) (low : ℕ) (u : List ℕ) (l : ℕ) : Type 0 where
  pub bound : l ≤ low
  pub below : (k : ℕ) → k < l → k < 32 * length m → marked m k + occurrences k u ≤ 1
  pub twice : (l ≡ low) ⊎ (2 ≤ marked m l + occurrences l u)

module _ (m : List ℕ) (low n : ℕ) (u : List ℕ) (l : ℕ) (rest : Lowest (with_bit m n) (noted m low n) u l) where
  occurs : occurrences n (n ∷ u) ≡ 1 + occurrences n u
  unfolding occurrences
  occurs = simp (eq-eqb n n refl)

  lowest-bound : l ≤ low
  lowest-bound =
      ⊎_elim
      (λ (e : bit_at m n ≡ true). omega (arith, rest.bound, noted-again m low n e))
      (λ (e : bit_at m n ≡ false). omega (arith, rest.bound, noted-fresh m low n e))
      (bool_cases (bit_at m n))

  lowest-below : (k : ℕ) → k < l → k < 32 * length m → marked m k + occurrences k (n ∷ u) ≤ 1
  lowest-below k below inside =
      let earlier = rest.below k below (omega (arith, length-with_bit m n)) in
      elim (ℕ_discrete k n) [
        | yes same ↦
            ⊎_elim
            (λ (e : bit_at m n ≡ true). absurd (omega (arith, rest.bound, noted-again m low n e)))
            (λ (e : bit_at m n ≡ false).
            let fresh : marked m n ≡ 0 = simp e in
            let once : marked (with_bit m n) n + occurrences n u ≤ 1 = rw same at earlier in
            rw same (omega (arith, fresh, once, step_same m n u (omega arith))))
            (bool_cases (bit_at m n))
        | no other ↦ omega (arith, earlier, step_other m n k u other)
      ]

  more : 2 ≤ marked (with_bit m n) l + occurrences l u → 2 ≤ marked m l + occurrences l (n ∷ u)
  more h =
      elim (ℕ_discrete l n) [
        | yes same ↦
            let here : 2 ≤ marked (with_bit m n) n + occurrences n u = rw same at h in
            rw same (omega (arith, here, occurs, marked-low (with_bit m n) n))
        | no other ↦ omega (arith, h, step_other m n l u other)
      ]

  again : bit_at m n ≡ true → l ≡ n → 2 ≤ marked m l + occurrences l (n ∷ u)
  again e same =
      let full : marked m n ≡ 1 = simp e in
      rw same (omega (arith, full, occurs))

  lowest-twice : (l ≡ low) ⊎ (2 ≤ marked m l + occurrences l (n ∷ u))
  lowest-twice =
      ⊎_elim
      (λ (same : l ≡ noted m low n).
      ⊎_elim
      (λ (e : bit_at m n ≡ true).
      elim (dec_lt n low) [
        | yes under ↦ inr (again e (omega (arith, same, noted-again m low n e)))
        | no over ↦ inl (omega (arith, same, noted-again m low n e))
      ])
      (λ (e : bit_at m n ≡ false). inl (same ∙ noted-fresh m low n e))
      (bool_cases (bit_at m n)))
      (λ (h : 2 ≤ marked (with_bit m n) l + occurrences l u). inr (more h))
      rest.twice

pub lowest : (m : List ℕ) (low : ℕ) (u : List ℕ) → Lowest m low u (repeated m low u)
unfolding repeated occurrences
lowest m low [] =
    record { bound = omega arith; below = λ k l inside. omega (arith, marked-low m k); twice = inl refl }
lowest m low (n ∷ u) =
    let l = repeated (with_bit m n) (noted m low n) u in
    let rest = lowest (with_bit m n) (noted m low n) u in
    record {
      bound = lowest-bound m low n u l rest;
      below = lowest-below m low n u l rest;
      twice = lowest-twice m low n u l rest;
    }

-- a node is marked where it was, or occurs in the list
pub bits_at : (m u : List ℕ) (k : ℕ) → k < 32 * length m
    → bit_at (with_bits m u) k ≡ (bit_at m k || ltb 0 (occurrences k u))
unfolding with_bits occurrences
bits_at m [] k inside = sym (or-false (bit_at m k))
bits_at m (n ∷ u) k inside =
    let rest = bits_at (with_bit m n) u k (omega (arith, length-with_bit m n)) in
    elim (ℕ_discrete k n) [
      | yes same ↦
          let full : bit_at (with_bit m n) k ≡ true = rw same (bit-same m n (omega arith)) in
          let some : ltb 0 (cond (eqb n k) 1 0 + occurrences k u) ≡ true =
          simp (eq-eqb n k (sym same)) (lt-ltb 0 (1 + occurrences k u) (omega arith)) in
          rest ∙ simp (full, some, or-true)
      | no other ↦
          let apart : eqb n k ≡ false = ne_eqb n k (λ e. other (sym e)) in
          rest ∙ simp (bit-other m n k other, apart, zero-add)
    ]
