-- Laws of the words that a call lends the core: how they are loaded, and what is saved of them.
use mathlib.Core.List.{List, ◌++◌}
use mathlib.Core.Path.{◌≡◌, refl, ap, sym, ◌∙◌, subst}
use Prim.Native.Nat.{ℕ, zero, suc, ◌+◌, ◌-◌, ◌*◌, ◌≤◌, ◌<◌}
use native.Mathlib.Decide.{dec_lt}
use native.Mathlib.Numerals.{add-one}
use native.Mathlib.Omega.{arith}
use lib.ListN.{length, get_or, set, take, replicate, length-set}
use lib.Seq.{set_at, take_at, take-suc, append_snoc, length-take-le, get_or-set_same, get_or-set_other, get_or-take, ext_get_or}
use Rattle.rules.specs.declared.Arrival.{Arrival}
use Rattle.rules.specs.Arrivals.{arrival_size, running_record, with_arrival}
use Rattle.collectives.specs.Given.{arrival_at}
use Rattle.records.specs.Roll.{most_lent, lent_words, roll_words, loaded, saved}
use Rattle.records.proofs.RollLaws.{words-length, words_append, words-set, words-at}

-- nothing is loaded yet; one record more
pub loaded-none : (roll : List Arrival) → loaded roll 0 ≡ replicate lent_words 0
unfolding loaded roll_words
loaded-none roll = refl

pub loaded-next : (roll : List Arrival) (p : ℕ) → p < length roll → p < most_lent → loaded roll (p + 1) ≡ with_arrival (loaded roll p) p (get_or roll p running_record)
unfolding loaded
loaded-next roll p l few =
    let r : Arrival = get_or roll p running_record in
    let left : most_lent - p ≡ suc (most_lent - (p + 1)) = omega arith in
    let at : length (take p roll) ≡ p = length-take-le p roll (omega arith) in
    sym (words-set (take p roll ++ replicate (most_lent - p) running_record) p r
    ∙ ap (λ (n : ℕ). roll_words (set (take p roll ++ replicate n running_record) p r)) left
    ∙ ap roll_words (set_at (take p roll) running_record (replicate (most_lent - (p + 1)) running_record) r p at)
    ∙ ap roll_words (sym (append_snoc (take p roll) r (replicate (most_lent - (p + 1)) running_record)))
    ∙ ap (λ (t : List Arrival). roll_words (t ++ replicate (most_lent - (p + 1)) running_record)) (sym (take-suc roll p running_record l) ∙ ap (λ (n : ℕ). take n roll) (sym (add-one p))))

-- the words of the records that are loaded stand first, and each can be read
pub loaded-words : (roll : List Arrival) (n : ℕ) → n ≤ length roll → take (arrival_size * n) (loaded roll n) ≡ roll_words (take n roll)
unfolding loaded
loaded-words roll n l =
    ap (take (arrival_size * n)) (words_append (take n roll) (replicate (most_lent - n) running_record))
    ∙ take_at (roll_words (take n roll)) (roll_words (replicate (most_lent - n) running_record)) (arrival_size * n) (words-length (take n roll) ∙ ap (λ (k : ℕ). arrival_size * k) (length-take-le n roll l))

-- nothing is saved yet; one record more
pub saved-none : (words : List ℕ) (roll : List Arrival) → saved words 0 roll ≡ roll
unfolding saved
saved-none words roll = refl

pub saved-next : (words : List ℕ) (p : ℕ) (roll : List Arrival) → saved words (p + 1) roll ≡ set (saved words p roll) p (arrival_at words p)
unfolding saved
saved-next words p roll = rw (add-one p) refl

pub saved-length : (words : List ℕ) (p : ℕ) (roll : List Arrival) → length (saved words p roll) ≡ length roll
unfolding saved
saved-length words zero roll = refl
saved-length words (suc p) roll = length-set (saved words p roll) p (arrival_at words p) ∙ saved-length words p roll

-- a record that is saved, and one that is not
saved-at : (words : List ℕ) (n : ℕ) (roll : List Arrival) (p : ℕ) → p < n → p < length roll → get_or (saved words n roll) p running_record ≡ arrival_at words p
unfolding saved
saved-at words zero roll p l m = absurd (omega arith)
saved-at words (suc n) roll p l m =
    elim (dec_lt p n) [
      | yes b ↦ get_or-set_other (saved words n roll) n p (arrival_at words n) running_record (λ e. omega arith) ∙ saved-at words n roll p b m
      | no b ↦
          let e : n ≡ p = omega arith in
          subst (λ (k : ℕ). get_or (set (saved words k roll) k (arrival_at words k)) p running_record ≡ arrival_at words p) (sym e)
          (get_or-set_same (saved words p roll) p (arrival_at words p) running_record (omega (arith, saved-length words p roll)))
    ]

kept_at : (words : List ℕ) (n : ℕ) (roll : List Arrival) (p : ℕ) → n ≤ p → get_or (saved words n roll) p running_record ≡ get_or roll p running_record
unfolding saved
kept_at words zero roll p l = refl
kept_at words (suc n) roll p l = get_or-set_other (saved words n roll) n p (arrival_at words n) running_record (λ e. omega arith) ∙ kept_at words n roll p (omega arith)

-- where the words begin with those of `new`, and `new` has the records from n on, `new` is what is saved
pub saved-words : (new roll : List Arrival) (rest : List ℕ) (n : ℕ) → length new ≡ n → n ≡ length roll → saved (roll_words new ++ rest) n roll ≡ new
saved-words new roll rest n sized whole =
    ext_get_or running_record (saved (roll_words new ++ rest) n roll) new (omega (arith, saved-length (roll_words new ++ rest) n roll))
    (λ p l. let b : p < n = omega (arith, l, saved-length (roll_words new ++ rest) n roll) in
    saved-at (roll_words new ++ rest) n roll p b (omega arith) ∙ words-at new rest p (omega arith))

-- where the words begin with the roll's own records, the roll stays
pub saved-same : (roll : List Arrival) (rest : List ℕ) (n : ℕ) → n ≤ length roll → saved (roll_words (take n roll) ++ rest) n roll ≡ roll
saved-same roll rest n fits =
    let words : List ℕ = roll_words (take n roll) ++ rest in
    ext_get_or running_record (saved words n roll) roll (saved-length words n roll)
    (λ p l. elim (dec_lt p n) [
      | yes b ↦ saved-at words n roll p b (omega arith) ∙ words-at (take n roll) rest p (omega (arith, length-take-le n roll fits)) ∙ get_or-take n roll p running_record b
      | no b ↦ kept_at words n roll p (omega arith)
    ])
