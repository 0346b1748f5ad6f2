-- What the programs read: its parts lie within it, and its questions are those of the start.
use mathlib.Core.Bool.{true, false}
use mathlib.Core.List.{List, [], ◌∷◌}
use mathlib.Core.Logic.{⊎_elim}
use mathlib.Core.Path.{◌≡◌, refl, sym, ◌∙◌}
use Prim.Native.Nat.{ℕ, zero, suc, ◌+◌, ◌*◌, ◌/◌, ◌%◌, ◌≤◌, min}
use native.Mathlib.Nat.{mul-le-mul}
use native.Mathlib.Omega.{arith}
use lib.Dec.{leb, eqb}
use lib.ListN.{length, length-append, length-drop}
use borrow.Author.Tests.{leb-true, eqb-true, eq-eqb, le-leb}
use Rattle.std.specs.Prelude.{Ok, Err}
use Rattle.rules.specs.Answers.{Verdict, Accepted, ◌then◌}
use Rattle.rules.specs.Arrivals.{arrival_size}
use Rattle.rules.specs.Evaluation.{doors}
use Rattle.rules.specs.Input.{most_input_bytes, question25, run_behind, serve_behind, behind, words_of, words_taken, words_exactly}
use Rattle.rules.specs.Input.{serve_input, given_verdict, run_verdict, serve_verdict, Lent, RunStarts, ServeStarts, ServeExact}
use Rattle.rules.specs.Process.{process_words, most_processes}
use Rattle.rules.specs.Start.{question18, question19, question20, question21, start_size, start_verdict, started_by, started}
use Rattle.rules.specs.Table.{decode, word_at, variables}
use Rattle.rules.specs.WellFormed.{joined, well_formed}
use Rattle.rules.proofs.AnswerLaws.{both_left, both_right, then_first, then_rest, ask_holds}
use Rattle.rules.proofs.ChoiceLaws.{bool_cases}

pub words-length : (count : ℕ) (bytes : List ℕ) → length (words_of count bytes) ≡ count
unfolding words_of joined
words-length zero bytes = refl
words-length (suc n) bytes =
    length-append (joined (λ i. word_at bytes i ∷ []) n) (word_at bytes n ∷ []) ∙ omega (arith, words-length n bytes)

-- question 25 bounds the words in what follows
pub few_words : (words : ℕ) (input : List ℕ) (n : ℕ) → question25 words input ≡ Accepted → 4 * n ≤ length (behind words input)
    → n ≤ most_input_bytes / 4
unfolding behind
few_words words input n e h =
    let short = leb-true (length input) most_input_bytes (both_left (leb (length input) most_input_bytes) _ (ask_holds 25 _ e)) in
    let within : 4 * n ≤ length input = omega (arith, simp length-drop at h) in
    omega (arith, short)

pub taken-within : (input : List ℕ) → 4 * words_taken input ≤ length (behind run_behind input)
unfolding words_taken
taken-within input = omega arith

pub exactly_within : (bytes : List ℕ) → 4 * words_exactly bytes ≤ length bytes
unfolding words_exactly
exactly_within bytes =
    ⊎_elim
    (λ (e : eqb (length bytes % 4) 0 ≡ true). simp e (omega arith))
    (λ (e : eqb (length bytes % 4) 0 ≡ false). simp e (omega arith))
    (bool_cases (eqb (length bytes % 4) 0))

-- what question 18 tells
few : (processes : ℕ) → question18 processes ≡ Accepted → (1 ≤ processes) × (processes ≤ most_processes)
few processes e =
    let both = ask_holds 18 _ e in (
      leb-true 1 processes (both_left (leb 1 processes) _ both),
      leb-true processes most_processes (both_right (leb 1 processes) _ both),
    )

-- what is bound to hold after a question plays no part
last-held : (u v w x : Verdict) → (v ≡ Accepted → x ≡ Accepted) → (u then v then w then x) ≡ (u then v then w)
last-held (Err r) v w x h = refl
last-held (Ok _) (Err r) w x h = refl
last-held (Ok _) (Ok _) (Err r) x h = refl
last-held (Ok _) (Ok _) (Ok _) x h = h refl

-- a start on state and roll of the size that a program lends asks no more than the program
module _ (table : List ℕ) (processes : ℕ) (words state roll : List ℕ) (lent : Lent processes state roll) where
  answer-is : (v : Verdict) → (started_by v (decode table) processes words state roll).answer ≡ v
  unfolding started_by
  answer-is (Ok _) = refl
  answer-is (Err r) = refl

  sizes : question18 processes ≡ Accepted → (question20 processes state then question21 processes roll) ≡ Accepted
  sizes e =
      let h = few processes e in
      let same : min processes most_processes ≡ processes = omega (arith, h.1) in
      let s : length state ≡ process_words * processes = simp same at lent.state-sized in
      let r : length roll ≡ arrival_size * processes = simp same at lent.roll-sized in
      simp (eq-eqb _ _ s, eq-eqb _ _ r, le-leb _ _ h.0, le-leb _ _ h.1)

  pub given-starts : (started table processes words state roll).answer ≡ given_verdict table processes words
  unfolding started start_verdict given_verdict
  given-starts =
      answer-is (start_verdict table processes words state roll)
      ∙ last-held (well_formed table) (question18 processes) (question19 (decode table) processes words) _ sizes

pub run-starts : RunStarts
unfolding run_verdict
run-starts input state roll e lent = simp e (given-starts _ _ _ state roll lent)

pub serve-starts : ServeStarts
unfolding serve_verdict
serve-starts input state roll e lent = simp e (given-starts _ _ _ state roll lent)

-- bytes that count as some words are those words and no more
exactly_all : (bytes : List ℕ) → 1 ≤ words_exactly bytes → length bytes ≡ 4 * words_exactly bytes
unfolding words_exactly
exactly_all bytes h =
    ⊎_elim
    (λ (e : eqb (length bytes % 4) 0 ≡ true).
    let whole : length bytes % 4 ≡ 0 = eqb-true _ _ e in
    simp e (omega arith))
    (λ (e : eqb (length bytes % 4) 0 ≡ false). absurd (omega (arith, simp e at h)))
    (bool_cases (eqb (length bytes % 4) 0))

-- every start asks for some words
some-asked : (table : List ℕ) (processes : ℕ) → 1 ≤ processes → 1 ≤ start_size (decode table) * processes
unfolding start_size
some-asked table processes h =
    let each : 1 ≤ variables (decode table) + doors = omega arith in
    omega (arith, mul-le-mul each h)

pub serve-exact : ServeExact
unfolding serve_verdict given_verdict serve_input
serve-exact input e =
    let table = (serve_input input).table in
    let processes = (serve_input input).processes in
    let given = behind serve_behind input in
    let after25 = then_rest (question25 serve_behind input) _ e in
    let formed = then_rest (well_formed table) _ after25 in
    let size : length (words_of (words_exactly given) given) ≡ start_size (decode table) * processes =
    eqb-true _ _ (ask_holds 19 _ (then_rest (question18 processes) _ formed)) in
    let same : words_exactly given ≡ start_size (decode table) * processes = sym (words-length (words_exactly given) given) ∙ size in
    let some = some-asked table processes (few processes (then_first (question18 processes) _ formed)).0 in
    omega (arith, exactly_all given (omega (arith, some, same)), same)
