-- The order of questions is a minimum: one more place is the lesser of two refusals, and so is one question before others.
use mathlib.Core.Bool.{Bool, true, false, not}
use mathlib.Core.Logic.{⊎_elim}
use mathlib.Core.Path.{◌≡◌, refl, sym, ◌∙◌}
use Prim.Native.Nat.{ℕ, zero, suc, ◌+◌, ◌*◌, ◌/◌, ◌%◌, ◌≤◌, ◌<◌, min}
use native.Mathlib.Decide.{dec_lt}
use native.Mathlib.Numerals.{add-one}
use native.Mathlib.Omega.{arith}
use borrow.Author.Tests.{lt-ltb, le-ltb, not-true, not-false}
use Rattle.rules.specs.Answers.{Verdict, Accepted, refused, ◌then◌, ask_each}
use Rattle.rules.specs.Choice.{first_failing}
use Rattle.rules.proofs.ChoiceLaws.{bool_cases}
use Rattle.table.proofs.PlaceLaws.{then_none}
use Rattle.visit.specs.Least.{none, code, failure, least_below, rank, verdict_of}

-- what a test says of the definition that a callee's answer equals

pub passed : {r t : Bool} → r ≡ t → not r ≡ false → t ≡ true
passed {r} e h = sym e ∙ not-false r h

pub failed : {r t : Bool} → r ≡ t → not r ≡ true → t ≡ false
failed {r} e h = sym e ∙ not-true r h

-- failures may be met in any order

pub min_assoc : (a b c : ℕ) → min (min a b) c ≡ min a (min b c)
min_assoc a b c = omega arith

pub min_left_comm : (a b c : ℕ) → min a (min b c) ≡ min b (min a c)
min_left_comm a b c = omega arith

-- the least of a range

pub least_more : (f : ℕ → ℕ) (n : ℕ) → least_below f (n + 1) ≡ min (least_below f n) (f n)
unfolding least_below
least_more f n = rw (add-one n)

pub least-high : (f : ℕ → ℕ) (n : ℕ) → least_below f n ≤ none
unfolding least_below
least-high f zero = omega arith
least-high f (suc n) = omega (arith, least-high f n)

pub least-same : (f g : ℕ → ℕ) (n : ℕ) → ((k : ℕ) → k < n → f k ≡ g k) → least_below f n ≡ least_below g n
unfolding least_below
least-same f g zero h = refl
least-same f g (suc n) h = omega (arith, least-same f g n (λ k l. h k (omega arith)), h n (omega arith))

pub least_both : (f g : ℕ → ℕ) (n : ℕ) → least_below (λ k. min (f k) (g k)) n ≡ min (least_below f n) (least_below g n)
unfolding least_below
least_both f g zero = omega arith
least_both f g (suc n) = rw (least_both f g n) (simp (min_assoc, min_left_comm))

-- a question put to a range

abbrev pub codes : ℕ → (ℕ → Bool) → ℕ → ℕ
codes q test k = failure q k (test k)

module _ (q : ℕ) (known : q < 65535) (test : ℕ → Bool) where
  each_more : (n : ℕ) → n < 65536
      → rank (ask_each q (suc n) test) ≡ min (rank (ask_each q n test)) (failure q n (test n))
  unfolding first_failing
  each_more n few =
      let i = first_failing test n in
      elim (dec_lt i n) [
        | yes l ↦
            let now = lt-ltb i n l in
            let next = lt-ltb i (suc n) (omega arith) in
            ⊎_elim
            (λ (e : test n ≡ true). simp (now, next, e) (omega arith))
            (λ (e : test n ≡ false). simp (now, next, e) (omega arith))
            (bool_cases (test n))
        | no m ↦
            let now = le-ltb i n (omega arith) in
            ⊎_elim
            (λ (e : test n ≡ true). simp (now, e, le-ltb (suc n) (suc n) (omega arith)))
            (λ (e : test n ≡ false). simp (now, e, lt-ltb n (suc n) (omega arith)) (omega arith))
            (bool_cases (test n))
      ]

  pub each-least : (n : ℕ) → n ≤ 65536 → rank (ask_each q n test) ≡ least_below (codes q test) n
  unfolding first_failing least_below
  each-least zero few = refl
  each-least (suc n) few =
      each_more n (omega arith) ∙ rw (each-least n (omega arith))

-- a row of questions: what it comes to, of which nothing is below a bound
pub record Row (low : ℕ) (v : Verdict) (least : ℕ) : Type 0 where
  pub is : rank v ≡ least
  pub above : low ≤ least
  pub high : least ≤ none
  pub back : verdict_of least ≡ v

-- a refusal back from its number
back-refused : (q place : ℕ) → q < 65535 → place < 65536 → verdict_of (code q place) ≡ refused q place
back-refused q place known few =
    let number : (q * 65536 + place) / 65536 ≡ q = omega arith in
    let rest : (q * 65536 + place) % 65536 ≡ place = omega arith in
    simp (lt-ltb (code q place) none (omega arith), number, rest)

-- a verdict of question q, alone and before others
module _ (q : ℕ) (known : q < 65535) (test : ℕ → Bool) (n : ℕ) (few : n ≤ 65536) where
  abbrev first : ℕ
  first = first_failing test n

  refused-row : (w : Verdict) (r : ℕ) → Row (code (q + 1) 0) w r → first < n
      → Row (code q 0) (ask_each q n test then w) (min (code q first) r)
  refused-row w r row l =
      let lesser : min (code q first) r ≡ code q first = omega (arith, row.above) in
      record {
        is = simp (lt-ltb first n l) (sym lesser);
        above = omega arith;
        high = omega arith;
        back = simp (lesser, lt-ltb first n l) (back-refused q first known (omega arith));
      }

  accepted-row : (w : Verdict) (r : ℕ) → Row (code (q + 1) 0) w r → n ≤ first
      → Row (code q 0) (ask_each q n test then w) (min none r)
  accepted-row w r row l =
      let other : min none r ≡ r = omega (arith, row.high) in
      record {
        is = simp (le-ltb first n l, other) row.is;
        above = omega (arith, row.above);
        high = omega arith;
        back = simp (other, le-ltb first n l) row.back;
      }

  pub row_more : (w : Verdict) (r : ℕ) → Row (code (q + 1) 0) w r
      → Row (code q 0) (ask_each q n test then w) (min (least_below (codes q test) n) r)
  row_more w r row =
      let least : least_below (codes q test) n ≡ rank (ask_each q n test) = sym (each-least q known test n few) in
      elim (dec_lt first n) [
        | yes l ↦
            let e : least_below (codes q test) n ≡ code q first = least ∙ simp (lt-ltb first n l) in
            rw e (refused-row w r row l)
        | no m ↦
            let e : least_below (codes q test) n ≡ none = least ∙ simp (le-ltb first n (omega arith)) in
            rw e (accepted-row w r row (omega arith))
      ]

-- the last question
pub row_last : (q : ℕ) → q < 65534 → (test : ℕ → Bool) (n : ℕ) → n ≤ 65536
    → Row (code q 0) (ask_each q n test) (least_below (codes q test) n)
row_last q known test n few =
    let end : Row (code (q + 1) 0) Accepted none = record { is = refl; above = omega arith; high = omega arith; back = refl } in
    let row = row_more q (omega arith) test n few Accepted none end in
    let lesser : min (least_below (codes q test) n) none ≡ least_below (codes q test) n =
    omega (arith, least-high (codes q test) n) in
    rw (then_none (ask_each q n test), lesser) at row
