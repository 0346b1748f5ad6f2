-- Words written one behind the other, and bytes that begin with them.
use mathlib.Core.List.{List, [], ◌∷◌, ◌++◌, append-nil, append_assoc}
use mathlib.Core.Path.{◌≡◌, refl, sym, ◌∙◌, ap}
use Prim.Native.Nat.{ℕ, zero, suc, ◌+◌, ◌*◌, ◌≤◌, ◌<◌}
use native.Mathlib.Nat.{add-zero}
use native.Mathlib.Numerals.{add-one}
use native.Mathlib.Omega.{arith}
use lib.ListN.{length, take, drop, set, length-append}
use lib.Seq.{sets, sets-eq, take_at, take_all, length-take-le}
use borrow.Rule.Slice.PartMut.{put_mid}
use Rattle.std.proofs.lemmas.List.{drop-drop}
use Rattle.rules.proofs.EncodingLaws.{bytes-length}
use Rattle.rules.specs.Encoding.{word_bytes}
use Rattle.rules.specs.WellFormed.{joined}
use Rattle.writer.specs.Written.{Begins}

-- stores behind stores
sets_more : (xs ys bytes : List ℕ) (i j : ℕ) → j ≡ i + length xs → sets (sets bytes i xs) j ys ≡ sets bytes i (xs ++ ys)
sets_more [] ys bytes i j e = let same : j ≡ i = omega (arith, e) in rw same refl
sets_more (x ∷ xs) ys bytes i j e = sets_more xs ys (set bytes i x) (suc i) j (omega (arith, e))

-- a word put behind so many
pub word_more : (word : ℕ → ℕ) (bytes : List ℕ) (to k w : ℕ) (out after : List ℕ)
    → out ≡ sets bytes (4 * to) (joined (λ i. word_bytes (word i)) k) → after ≡ sets out (4 * (to + k)) (word_bytes w) → w ≡ word k
    → after ≡ sets bytes (4 * to) (joined (λ i. word_bytes (word i)) (k + 1))
unfolding joined
word_more word bytes to k w out after written put same =
    rw (put, written, same, add-one)
    (sets_more (joined (λ i. word_bytes (word i)) k) (word_bytes (word k)) bytes (4 * to) (4 * (to + k))
    (omega (arith, bytes-length word k)))

-- a part of the bytes put anew, as stores
pub put_sets : (i k : ℕ) (bytes put : List ℕ) → length put ≡ k → i + k ≤ length bytes → put_mid i k bytes put ≡ sets bytes i put
put_sets i k bytes put size fits =
    rw (drop-drop, ← size, sets-eq put bytes i (omega arith), append_assoc)

-- lists one behind the other
joined_add : (list : ℕ → List ℕ) (i count : ℕ) → joined list (i + count) ≡ joined list i ++ joined (λ k. list (i + k)) count
unfolding joined
joined_add list i zero = rw add-zero (sym (append-nil (joined list i)))
joined_add list i (suc count) =
    let e : i + suc count ≡ suc (i + count) = omega arith in
    rw e
    (ap (λ xs. xs ++ list (i + count)) (joined_add list i count)
    ∙ append_assoc (joined list i) (joined (λ k. list (i + k)) count) (list (i + count)))

joined_same : (first second : ℕ → List ℕ) (count : ℕ) → ((k : ℕ) → k < count → first k ≡ second k)
    → joined first count ≡ joined second count
unfolding joined
joined_same first second zero same = refl
joined_same first second (suc count) same =
    simp (joined_same first second count (λ k l. same k (omega arith)), same count (omega arith))

-- the next words, written behind the first ones
module _ (word : ℕ → ℕ) (i : ℕ) (bytes after : List ℕ) (begun : Begins word i bytes) where
  pub begins_more : (count end : ℕ) → i + count ≡ end → (more : ℕ → ℕ)
      → after ≡ sets bytes (4 * i) (joined (λ k. word_bytes (more k)) count) → ((k : ℕ) → k < count → more k ≡ word (i + k))
      → 4 * end ≤ length bytes → Begins word end after
  begins_more count end e more written same l =
      let next = joined (λ k. word_bytes (more k)) count in
      let size = bytes-length more count in
      let front : length (take (4 * i) bytes) ≡ 4 * i = length-take-le (4 * i) bytes (omega arith) in
      rw (← e)
      (ap (take (4 * (i + count))) (written ∙ sets-eq next bytes (4 * i) (omega (arith, size)))
      ∙ (take_at (take (4 * i) bytes ++ next) (drop (4 * i + length next) bytes) (4 * (i + count))
      (omega (arith, length-append (take (4 * i) bytes) next, size, front))
      ∙ (ap (λ xs. xs ++ next) begun
      ∙ (ap (λ xs. joined (λ k. word_bytes (word k)) i ++ xs)
      (joined_same (λ k. word_bytes (more k)) (λ k. word_bytes (word (i + k))) count (λ k m. ap word_bytes (same k m)))
      ∙ sym (joined_add (λ k. word_bytes (word k)) i count)))))

  pub begins_word : (w : ℕ) → after ≡ sets bytes (4 * i) (word_bytes w) → w ≡ word i → 4 * i + 3 < length bytes
      → Begins word (i + 1) after
  unfolding joined
  begins_word w written same l =
      begins_more 1 (i + 1) refl (λ k. w) written (λ k m. same ∙ ap word (omega arith)) (omega arith)

-- a whole output
pub begins_all : (word : ℕ → ℕ) (count : ℕ) (bytes : List ℕ) → Begins word count bytes → length bytes ≡ 4 * count
    → bytes ≡ joined (λ i. word_bytes (word i)) count
begins_all word count bytes b e = sym (take_all (4 * count) bytes (omega (arith, e))) ∙ b
