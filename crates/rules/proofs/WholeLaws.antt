-- The lent state and roll as a whole: lists of blocks of one size, one for each process. Changes of two blocks commute.
use mathlib.Core.List.{List}
use mathlib.Core.Logic.{◌≢◌}
use mathlib.Core.Path.{◌≡◌, sym, ◌∙◌, ap}
use Prim.Native.Nat.{ℕ, zero, suc, ◌+◌, ◌*◌, ◌/◌, ◌%◌, ◌<◌}
use native.Mathlib.Decide.{ℕ_discrete}
use native.Mathlib.Nat.{add-zero, mul_comm, div-add-mod, mod-lt, div-lt_iff_lt-mul}
use native.Mathlib.Omega.{arith}
use lib.ListN.{length, get_or}
use lib.Seq.{ext_get_or}
use Rattle.rules.specs.declared.Arrival.{Arrival}
use Rattle.rules.specs.Arrivals.{arrival_size, arrival_words, with_arrival}
use Rattle.rules.specs.Process.{process_words, process_at, with_process}
use Rattle.rules.proofs.ArrivalLaws.{RecordIs, with_arrival-length, with_arrival_same_at, with_arrival_other_at}
use Rattle.rules.proofs.ProcessLaws.{process_at_lem, with_process-length, with_process-same, with_process-outside}

module _ (size count : ℕ) where
  abbrev Sized : List ℕ → Type 0
  Sized xs = length xs ≡ size * count

  -- a change that writes a block to place p
  record Writes (change : List ℕ → List ℕ) (p : ℕ) (block : List ℕ) : Type 0 where
    kept : (xs : List ℕ) → Sized xs → Sized (change xs)
    here : (xs : List ℕ) (k : ℕ) → Sized xs → k < size → get_or (change xs) (size * p + k) 0 ≡ get_or block k 0
    there : (xs : List ℕ) (q k : ℕ) → Sized xs → q ≢ p → k < size
        → get_or (change xs) (size * q + k) 0 ≡ get_or xs (size * q + k) 0

  module _ (some : 0 < size) where
    -- lists with equal blocks are equal
    whole : (xs ys : List ℕ) → Sized xs → Sized ys
        → ((q k : ℕ) → q < count → k < size → get_or xs (size * q + k) 0 ≡ get_or ys (size * q + k) 0) → xs ≡ ys
    whole xs ys sized sized2 same =
        ext_get_or 0 xs ys (sized ∙ sym sized2)
        (λ i b.
        let low : i / size < count = (div-lt_iff_lt-mul some).1 (rw (mul_comm count size, ← sized) b) in
        rw (div-add-mod i size) at (same (i / size) (i % size) low (mod-lt i some)))

    -- a block that stands there already changes nothing
    written : {change : List ℕ → List ℕ} {p : ℕ} {block : List ℕ} → Writes change p block → (xs : List ℕ) → Sized xs
        → ((k : ℕ) → k < size → get_or xs (size * p + k) 0 ≡ get_or block k 0) → change xs ≡ xs
    written {change} {p} {block} w xs sized same =
        whole (change xs) xs (w.kept xs sized) sized
        (λ q k l h.
        elim (ℕ_discrete q p) [
          | yes e ↦ rw e (w.here xs k sized h ∙ sym (same k h))
          | no n ↦ w.there xs q k sized n h
        ])

    swapped : {f g : List ℕ → List ℕ} {p q : ℕ} {a b : List ℕ} → Writes f p a → Writes g q b → p ≢ q → (xs : List ℕ)
        → Sized xs → g (f xs) ≡ f (g xs)
    swapped {f} {g} {p} {q} {a} {b} v w n xs sized =
        let one = v.kept xs sized in
        let other = w.kept xs sized in
        whole (g (f xs)) (f (g xs)) (w.kept (f xs) one) (v.kept (g xs) other)
        (λ s k l h.
        elim (ℕ_discrete s q) [
          | yes e ↦
              rw e
              (w.here (f xs) k one h ∙ sym (v.there (g xs) q k other (λ z. n (sym z)) h ∙ w.here xs k sized h))
          | no m ↦
              w.there (f xs) s k one m h
              ∙ elim (ℕ_discrete s p) [
                | yes e ↦ rw e (v.here xs k sized h ∙ sym (v.here (g xs) k other h))
                | no o ↦ v.there xs s k sized o h ∙ sym (v.there (g xs) s k other o h ∙ w.there xs s k sized m h)
              ]
        ])

-- states with the same words in each process, and rolls with the same record of each
pub same-state : (count : ℕ) (state other : List ℕ) → length state ≡ process_words * count → length other ≡ process_words * count
    → ((p : ℕ) → p < count → process_at state p ≡ process_at other p) → state ≡ other
same-state count state other sized sized2 same =
    whole process_words count (omega arith) state other sized sized2
    (λ p k l h. sym (process_at_lem state p k h) ∙ (ap (λ words. get_or words k 0) (same p l) ∙ process_at_lem other p k h))

record_words : (roll : List ℕ) (p : ℕ) (r : Arrival) → RecordIs roll p r → (k : ℕ) → k < arrival_size
    → get_or roll (arrival_size * p + k) 0 ≡ get_or (arrival_words r) k 0
record_words roll p r is zero h = rw add-zero is.status
record_words roll p r is (suc zero) h = is.node
record_words roll p r is (suc (suc zero)) h = is.value
record_words roll p r is (suc (suc (suc zero))) h = is.source
record_words roll p r is (suc (suc (suc (suc k)))) h = absurd (omega arith)

pub same-roll : (count : ℕ) (roll other : List ℕ) (arrival : ℕ → Arrival) → length roll ≡ arrival_size * count
    → length other ≡ arrival_size * count → ((p : ℕ) → p < count → RecordIs roll p (arrival p))
    → ((p : ℕ) → p < count → RecordIs other p (arrival p)) → roll ≡ other
same-roll count roll other arrival sized sized2 is is2 =
    whole arrival_size count (omega arith) roll other sized sized2
    (λ p k l h. record_words roll p (arrival p) (is p l) k h ∙ sym (record_words other p (arrival p) (is2 p l) k h))

-- a process's words
process_writes : (count p : ℕ) (words : List ℕ) → length words ≡ process_words → p < count
    → Writes process_words count (λ state. with_process state p words) p words
process_writes count p words h l =
    record {
      kept = λ xs sized. with_process-length xs count p words sized h l ∙ sized;
      here = λ xs k sized m.
          sym (process_at_lem (with_process xs p words) p k m)
          ∙ ap (λ ws. get_or ws k 0) (with_process-same xs count p words sized h l);
      there = λ xs q k sized n m. with_process-outside xs count p words q k sized h l n m;
    }

pub with_process-swapped : (state : List ℕ) (count p q : ℕ) (a b : List ℕ) → length state ≡ process_words * count → length a ≡ process_words
    → length b ≡ process_words → p < count → q < count → p ≢ q
    → with_process (with_process state p a) q b ≡ with_process (with_process state q b) p a
with_process-swapped state count p q a b sized la lb l m n =
    swapped process_words count (omega arith) (process_writes count p a la l) (process_writes count q b lb m) n state sized

-- a process's record
arrival_writes : (count p : ℕ) (r : Arrival) → p < count
    → Writes arrival_size count (λ roll. with_arrival roll p r) p (arrival_words r)
arrival_writes count p r l =
    record {
      kept = λ xs sized. with_arrival-length xs p r ∙ sized;
      here = λ xs k sized m. with_arrival_same_at xs count p k r sized l m;
      there = λ xs q k sized n m. with_arrival_other_at xs p q k r n m;
    }

pub with_arrival-swapped : (roll : List ℕ) (count p q : ℕ) (a b : Arrival) → length roll ≡ arrival_size * count → p < count → q < count
    → p ≢ q → with_arrival (with_arrival roll p a) q b ≡ with_arrival (with_arrival roll q b) p a
with_arrival-swapped roll count p q a b sized l m n =
    swapped arrival_size count (omega arith) (arrival_writes count p a l) (arrival_writes count q b m) n roll sized

pub with_arrival-kept : (roll : List ℕ) (count p : ℕ) (r : Arrival) → length roll ≡ arrival_size * count → p < count → RecordIs roll p r
    → with_arrival roll p r ≡ roll
with_arrival-kept roll count p r sized l is =
    written arrival_size count (omega arith) (arrival_writes count p r l) roll sized (record_words roll p r is)
