-- Laws of the roll as records and as words: length, parts, one record read or written, and that the words tell the records.
use mathlib.Core.List.{List, [], ◌∷◌, ◌++◌, append_assoc}
use mathlib.Core.Path.{◌≡◌, refl, ap, sym, ◌∙◌}
use Prim.Native.Nat.{ℕ, zero, suc, ◌+◌, ◌*◌, ◌≤◌, ◌<◌}
use native.Mathlib.Nat.{zero-add, suc-add}
use native.Mathlib.Omega.{arith}
use lib.ListN.{length, get_or, set, get_or-append}
use lib.Seq.{sets, set_out, get_or-append-add, ext_get_or}
use Rattle.rules.specs.declared.Arrival.{Arrival}
use Rattle.rules.specs.declared.Status.{Status}
use Rattle.rules.specs.declared.Status.TheVariants.{Running, Waiting, Ended}
use Rattle.rules.specs.Arrivals.{arrival_size, status_number, arrival_words, running_record, with_arrival}
use Rattle.collectives.specs.Given.{status_of, arrival_at}
use Rattle.records.specs.Roll.{roll_words}

pub words-length : (roll : List Arrival) → length (roll_words roll) ≡ arrival_size * length roll
unfolding roll_words
words-length [] = refl
words-length (a ∷ roll) = simp (words-length roll) (omega arith)

pub words_append : (xs ys : List Arrival) → roll_words (xs ++ ys) ≡ roll_words xs ++ roll_words ys
unfolding roll_words
words_append [] ys = refl
words_append (a ∷ xs) ys = ap (λ (l : List ℕ). arrival_words a ++ l) (words_append xs ys) ∙ sym (append_assoc (arrival_words a) (roll_words xs) (roll_words ys))

-- a run of stores behind a list
sets_behind : (xs ys : List ℕ) (i : ℕ) (vs : List ℕ) → sets (xs ++ ys) (length xs + i) vs ≡ xs ++ sets ys i vs
sets_behind xs ys i [] = refl
sets_behind xs ys i (v ∷ vs) =
    ap (λ (l : List ℕ). sets l (suc (length xs + i)) vs) (set-behind xs ys i v)
    ∙ ap (λ (n : ℕ). sets (xs ++ set ys i v) n vs) (omega arith)
    ∙ sets_behind xs (set ys i v) (suc i) vs
  where
    set-behind : (xs ys : List ℕ) (i v : ℕ) → set (xs ++ ys) (length xs + i) v ≡ xs ++ set ys i v
    set-behind [] ys i v = ap (λ (n : ℕ). set ys n v) (zero-add i)
    set-behind (x ∷ xs) ys i v = ap (λ (n : ℕ). set (x ∷ (xs ++ ys)) n v) (suc-add (length xs) i) ∙ ap (λ (l : List ℕ). x ∷ l) (set-behind xs ys i v)

-- a run of stores past the end
sets_out : (l : List ℕ) (i : ℕ) (vs : List ℕ) → length l ≤ i → sets l i vs ≡ l
sets_out l i [] out = refl
sets_out l i (v ∷ vs) out = ap (λ (k : List ℕ). sets k (suc i) vs) (set_out l i v out) ∙ sets_out l (suc i) vs (omega arith)

-- another record p
pub words-set : (roll : List Arrival) (p : ℕ) (a : Arrival) → with_arrival (roll_words roll) p a ≡ roll_words (set roll p a)
unfolding with_arrival roll_words
words-set [] p a = sets_out [] (arrival_size * p) (arrival_words a) (omega arith)
words-set (r ∷ roll) zero a = refl
words-set (r ∷ roll) (suc p) a =
    let e : arrival_size * suc p ≡ arrival_size + arrival_size * p = omega arith in
    ap (λ (i : ℕ). sets (arrival_words r ++ roll_words roll) i (arrival_words a)) e
    ∙ sets_behind (arrival_words r) (roll_words roll) (arrival_size * p) (arrival_words a)
    ∙ ap (λ (w : List ℕ). arrival_words r ++ w) (words-set roll p a)

status-back : (s : Status) → status_of (status_number s) ≡ s
status-back Running = refl
status-back Waiting = refl
status-back Ended = refl

-- record p is read back
word_at : (roll : List Arrival) (rest : List ℕ) (p k : ℕ) → p < length roll → k < arrival_size → get_or (roll_words roll ++ rest) (arrival_size * p + k) 0 ≡ get_or (arrival_words (get_or roll p running_record)) k 0
unfolding roll_words
word_at [] rest p k l h = absurd (omega arith)
word_at (r ∷ roll) rest zero k l h =
    let e : arrival_size * zero + k ≡ k = omega arith in
    ap (λ (i : ℕ). get_or ((arrival_words r ++ roll_words roll) ++ rest) i 0) e ∙ get_or-append (arrival_words r) (roll_words roll ++ rest) 0 k h
word_at (r ∷ roll) rest (suc p) k l h =
    let e : arrival_size * suc p + k ≡ arrival_size + (arrival_size * p + k) = omega arith in
    ap (λ (i : ℕ). get_or ((arrival_words r ++ roll_words roll) ++ rest) i 0) e
    ∙ get_or-append-add (arrival_words r) (roll_words roll ++ rest) (arrival_size * p + k) 0
    ∙ word_at roll rest p k (omega arith) h

pub words-at : (roll : List Arrival) (rest : List ℕ) (p : ℕ) → p < length roll → arrival_at (roll_words roll ++ rest) p ≡ get_or roll p running_record
unfolding arrival_at
words-at roll rest p l =
    let e : arrival_size * p ≡ arrival_size * p + 0 = omega arith in
    let s : get_or (roll_words roll ++ rest) (arrival_size * p) 0 ≡ status_number (get_or roll p running_record).status
    = ap (λ (i : ℕ). get_or (roll_words roll ++ rest) i 0) e ∙ word_at roll rest p 0 l (omega arith) in
    λ i. record {
      status = (ap status_of s ∙ status-back (get_or roll p running_record).status) i;
      node = word_at roll rest p 1 l (omega arith) i;
      value = word_at roll rest p 2 l (omega arith) i;
      source = word_at roll rest p 3 l (omega arith) i;
    }

-- the words tell the records
pub words_injective : (xs ys : List Arrival) → roll_words xs ≡ roll_words ys → xs ≡ ys
words_injective xs ys e =
    let n : arrival_size * length xs ≡ arrival_size * length ys = sym (words-length xs) ∙ ap length e ∙ words-length ys in
    ext_get_or running_record xs ys (omega arith)
    (λ p l. sym (words-at xs [] p l) ∙ ap (λ (w : List ℕ). arrival_at (w ++ []) p) e ∙ words-at ys [] p (omega arith))
