-- Laws of marks: marking sets exactly that bit and keeps the length; zeroed words mark nothing.
use mathlib.Core.Bool.{Bool, true, false, cond}
use mathlib.Core.List.{List}
use mathlib.Core.Logic.{⊎_elim}
use mathlib.Core.Path.{◌≡◌, sym, ◌∙◌, ap, ap₂}
use Prim.Native.Nat.{ℕ, ◌+◌, ◌-◌, ◌*◌, ◌/◌, ◌%◌, ◌^◌, ◌≤◌, ◌<◌, min, max}
use native.Mathlib.Decide.{dec_lt, ℕ_discrete}
use native.Mathlib.Nat.{add-div_right, add-mul-div_left, zero-div, one-mul, add-mul, div-add-mod', mod-lt}
use native.Mathlib.Omega.{arith}
use lib.Bits.{bit_or, or_step, or_zero_r, or_block}
use lib.Dec.{eqb}
use lib.ListN.{length, get_or, set, replicate, length-set, length-replicate, get_or-replicate, get_or-eq_default}
use lib.Pow.{pow_pos, pow-add, shl_exact, shr-shr}
use lib.Seq.{get_or-set_same, get_or-set_other, set_out}
use borrow.Author.Tests.{eq-eqb, eqb-true, eqb-false}
use Rattle.std.specs.List.{list_all}
use Rattle.std.specs.Int.{trailing_ones}
use Rattle.std.proofs.Common.{w32}
use Rattle.std.proofs.lemmas.Nat.Bits.{bit_at_ones, bit_at-trailing_ones}
use Rattle.std.proofs.Math.Nat.{min-eq_left, min-eq_right}
use Rattle.std.proofs.lemmas.List.Elements.{All-get_or, All-from_get_or}
use Rattle.std.proofs.lemmas.List.Sums.{AllPass-from_list_all, list_all-from_AllPass}
use Rattle.rules.specs.Choice.{first_failing, all_below}
use Rattle.rules.proofs.ChoiceLaws.{Passed, bool_cases, first-none, first-at, all-at, all_true}
use Rattle.table.specs.Marks.{has_bit, bit_at, with_bit}
use Rattle.table.proofs.TestLaws.{never}

-- a word's bit k is clear: what its places are after 2 ^ k is added

module _ (w k : ℕ) (clear : has_bit w k ≡ false) where
  even : w / 2 ^ k % 2 ≡ 0
  unfolding has_bit
  even = omega (arith, eqb-false (w / 2 ^ k % 2) 1 clear)

  at_place : (w + 2 ^ k) / 2 ^ k ≡ w / 2 ^ k + 1
  at_place = add-div_right w (pow_pos k)

  -- the places above stay
  above_place : (d : ℕ) → (w + 2 ^ k) / 2 ^ (k + (1 + d)) ≡ w / 2 ^ (k + (1 + d))
  above_place d =
      let q = w / 2 ^ k in
      let halves : (q + 1) / 2 ≡ q / 2 = omega (arith, even) in
      sym (shr-shr (w + 2 ^ k) k (1 + d))
      ∙ ap (λ (x : ℕ). x / 2 ^ (1 + d)) at_place
      ∙ sym (shr-shr (q + 1) 1 d)
      ∙ ap (λ (x : ℕ). x / 2 ^ d) halves
      ∙ shr-shr q 1 d
      ∙ shr-shr w k (1 + d)

-- below the place only an even number is added
below-place : (w j d : ℕ) → (w + 2 ^ (j + (1 + d))) / 2 ^ j % 2 ≡ w / 2 ^ j % 2
below-place w j d =
    let double : 2 ^ (1 + d) ≡ 2 * 2 ^ d = pow-add 2 1 d in
    let plus : (w + 2 ^ (j + (1 + d))) / 2 ^ j ≡ w / 2 ^ j + 2 ^ (1 + d) =
    rw (pow-add 2 j (1 + d)) (add-mul-div_left w (2 ^ (1 + d)) (pow_pos j)) in
    omega arith

pub bit_added : (w k : ℕ) → has_bit w k ≡ false → has_bit (w + 2 ^ k) k ≡ true
unfolding has_bit
bit_added w k clear =
    eq-eqb ((w + 2 ^ k) / 2 ^ k % 2) 1 (omega (arith, even w k clear, at_place w k clear))

pub bit_kept : (w k j : ℕ) → (j ≡ k → ⊥) → has_bit w k ≡ false → has_bit (w + 2 ^ k) j ≡ has_bit w j
unfolding has_bit
bit_kept w k j other clear =
    elim (dec_lt j k) [
      | yes l ↦
          let e : j + (1 + (k - (j + 1))) ≡ k = omega arith in
          let same : (w + 2 ^ k) / 2 ^ j % 2 ≡ w / 2 ^ j % 2 = rw e at (below-place w j (k - (j + 1))) in
          ap (λ (x : ℕ). eqb x 1) same
      | no m ↦
          let e : k + (1 + (j - (k + 1))) ≡ j = omega arith in
          let same : (w + 2 ^ k) / 2 ^ j ≡ w / 2 ^ j = rw e at (above_place w k clear (j - (k + 1))) in
          ap (λ (x : ℕ). eqb (x % 2) 1) same
    ]

odd : (w k : ℕ) → has_bit w k ≡ true → w / 2 ^ k % 2 ≡ 1
unfolding has_bit
odd w k here = eqb-true (w / 2 ^ k % 2) 1 here

-- the code's bitwise or

or_one : (h : ℕ) → bit_or h 1 ≡ h / 2 * 2 + max (h % 2) 1
or_one h = or_step h 1 ∙ ap (λ (x : ℕ). x * 2 + max (h % 2) 1) (or_zero_r (h / 2))

pub or_bit : (w k : ℕ) → bit_or w (2 ^ k) ≡ cond (has_bit w k) w (w + 2 ^ k)
or_bit w k =
    let h = w / 2 ^ k in
    let l = w % 2 ^ k in
    let whole : h * 2 ^ k + l ≡ w = div-add-mod' w (2 ^ k) in
    let alone : 2 ^ k ≡ 1 * 2 ^ k + 0 = omega arith in
    let apart : bit_or w (2 ^ k) ≡ bit_or h 1 * 2 ^ k + l =
    ap₂ bit_or (sym whole) alone
    ∙ or_block k h 1 l 0 (mod-lt w (pow_pos k)) (pow_pos k)
    ∙ ap (λ (x : ℕ). bit_or h 1 * 2 ^ k + x) (or_zero_r l) in
    ⊎_elim
    (λ (e : has_bit w k ≡ true).
    let same : bit_or h 1 ≡ h = omega (arith, or_one h, odd w k e) in
    simp e (apart ∙ ap (λ (x : ℕ). x * 2 ^ k + l) same ∙ whole))
    (λ (e : has_bit w k ≡ false).
    let more : bit_or h 1 ≡ h + 1 = omega (arith, or_one h, even w k e) in
    simp e (apart ∙ ap (λ (x : ℕ). x * 2 ^ k + l) more ∙ omega (arith, whole, add-mul h 1 (2 ^ k))))
    (bool_cases (has_bit w k))

-- the code's shift
pub shifted : (k : ℕ) → k < 32 → (1 * 2 ^ k) % 2 ^ 32 ≡ 2 ^ k
shifted k l = shl_exact {a = 1} 1 k 32 (omega arith) (omega arith) ∙ one-mul (2 ^ k)

-- marks

pub length-with_bit : (m : List ℕ) (n : ℕ) → length (with_bit m n) ≡ length m
unfolding with_bit
length-with_bit m n =
    ⊎_elim
    (λ (e : bit_at m n ≡ true). simp e)
    (λ (e : bit_at m n ≡ false). simp (e, length-set))
    (bool_cases (bit_at m n))

pub bit-clear : (m : List ℕ) (n : ℕ) → bit_at m n ≡ false → has_bit (get_or m (n / 32) 0) (n % 32) ≡ false
unfolding bit_at
bit-clear m n e = e

pub bit-set : (m : List ℕ) (n : ℕ) → bit_at m n ≡ true → has_bit (get_or m (n / 32) 0) (n % 32) ≡ true
unfolding bit_at
bit-set m n e = e

set_same : (m : List ℕ) (n v : ℕ) → n < 32 * length m → bit_at (set m (n / 32) v) n ≡ has_bit v (n % 32)
unfolding bit_at
set_same m n v l =
    let inside : n / 32 < length m = omega arith in
    rw (get_or-set_same m (n / 32) v 0 inside)

-- a word of which only bit n % 32 is another
set_other : (m : List ℕ) (n k v : ℕ) → (k ≡ n → ⊥)
    → ((j : ℕ) → (j ≡ n % 32 → ⊥) → has_bit v j ≡ has_bit (get_or m (n / 32) 0) j)
    → bit_at (set m (n / 32) v) k ≡ bit_at m k
unfolding bit_at
set_other m n k v other kept =
    elim (dec_lt (n / 32) (length m)) [
      | yes inside ↦
          elim (ℕ_discrete (k / 32) (n / 32)) [
            | yes same ↦
                let apart : k % 32 ≡ n % 32 → ⊥ = λ e. other (omega arith) in
                rw (same, get_or-set_same m (n / 32) v 0 inside) (kept (k % 32) apart)
            | no word ↦ rw (get_or-set_other m (n / 32) (k / 32) v 0 word)
          ]
      | no outside ↦ let past : length m ≤ n / 32 = omega arith in rw (set_out m (n / 32) v past)
    ]

-- marking sets the bit
pub bit-same : (m : List ℕ) (n : ℕ) → n < 32 * length m → bit_at (with_bit m n) n ≡ true
unfolding with_bit
bit-same m n l =
    ⊎_elim
    (λ (e : bit_at m n ≡ true). simp e)
    (λ (e : bit_at m n ≡ false).
    simp e (set_same m n (get_or m (n / 32) 0 + 2 ^ (n % 32)) l ∙ bit_added (get_or m (n / 32) 0) (n % 32) (bit-clear m n e)))
    (bool_cases (bit_at m n))

-- and no other
pub bit-other : (m : List ℕ) (n k : ℕ) → (k ≡ n → ⊥) → bit_at (with_bit m n) k ≡ bit_at m k
unfolding with_bit
bit-other m n k other =
    ⊎_elim
    (λ (e : bit_at m n ≡ true). simp e)
    (λ (e : bit_at m n ≡ false).
    simp e
    (set_other m n k (get_or m (n / 32) 0 + 2 ^ (n % 32)) other
    (λ j apart. bit_kept (get_or m (n / 32) 0) (n % 32) j apart (bit-clear m n e))))
    (bool_cases (bit_at m n))

-- zeroed words mark nothing
pub bit-zero : (count k : ℕ) → bit_at (replicate count 0) k ≡ false
unfolding bit_at has_bit
bit-zero count k =
    let word : get_or {A = ℕ} (replicate count 0) (k / 32) 0 ≡ 0 =
    elim (dec_lt (k / 32) count) [
      | yes l ↦ get_or-replicate count (k / 32) 0 0 l
      | no m ↦
          get_or-eq_default {A = ℕ} (replicate count 0) 0
          (let past : count ≤ k / 32 = omega arith in simp length-replicate past)
    ] in
    simp (word, zero-div)

-- a word in which every bit is set
pub bits_full : (m : List ℕ) (i k : ℕ) → get_or m i 0 ≡ 4294967295 → k / 32 ≡ i → bit_at m k ≡ true
unfolding bit_at has_bit
bits_full m i k full here = rw (here, full) (eq-eqb _ 1 (bit_at_ones 32 (k % 32) (omega arith)))

-- a word in which not: all nodes before are marked, up to where its ones end
pub first-ended : (m : List ℕ) (i count : ℕ) → get_or m i 0 + 1 < 2 ^ 32 → Passed (bit_at m) (32 * i)
    → min count (32 * i + trailing_ones w32 (get_or m i 0)) ≡ first_failing (bit_at m) count
unfolding bit_at has_bit
first-ended m i count few before =
    let word = get_or m i 0 in
    let ones = trailing_ones w32 word in
    let ends = bit_at-trailing_ones w32 word few in
    let within : ones < 32 = ends.0 in
    let set : Passed (bit_at m) (32 * i + ones) = λ k low.
    elim (dec_lt k (32 * i)) [
      | yes lower ↦ before k lower
      | no here ↦
          let at : k / 32 ≡ i = omega arith in
          let bit : k % 32 < ones = omega arith in
          rw at (eq-eqb _ 1 (ends.2 (k % 32) bit))
    ] in
    let at : (32 * i + ones) / 32 ≡ i = omega arith in
    let bit : (32 * i + ones) % 32 ≡ ones = omega arith in
    let clear : bit_at m (32 * i + ones) ≡ false = rw (at, bit, ends.1) in
    elim (dec_lt (32 * i + ones) count) [
      | yes below ↦
          let least : min count (32 * i + ones) ≡ 32 * i + ones = min-eq_right (omega arith) in
          least ∙ sym (first-at (bit_at m) count (32 * i + ones) below set clear)
      | no above ↦
          let least : min count (32 * i + ones) ≡ count = min-eq_left (omega arith) in
          least ∙ sym (first-none (bit_at m) count (λ k low. set k (omega arith)))
    ]

-- words cleared, of a known number
pub cleared : {n : ℕ} (after m : List ℕ) → after ≡ replicate (length m) 0 → length m ≡ n → after ≡ replicate n 0
cleared after m e size = e ∙ ap (λ (k : ℕ). replicate k 0) size

-- a test that all of a list passes, told by place
pub listed-below : (test : ℕ → Bool) (xs : List ℕ) → list_all test xs ≡ all_below (λ i. test (get_or xs i 0)) (length xs)
listed-below test xs =
    let at : ℕ → Bool = λ i. test (get_or xs i 0) in
    let P : ℕ → Type 0 = λ x. test x ≡ true in
    ⊎_elim
    (λ (e : list_all test xs ≡ true).
    e ∙ sym (all_true at (length xs) (λ k inside. All-get_or P xs k 0 inside (AllPass-from_list_all test xs e))))
    (λ (e : list_all test xs ≡ false).
    ⊎_elim
    (λ (b : all_below at (length xs) ≡ true).
    never (sym (list_all-from_AllPass test xs (All-from_get_or P xs 0 (all-at at (length xs) b))) ∙ e))
    (λ (b : all_below at (length xs) ≡ false). e ∙ sym b)
    (bool_cases (all_below at (length xs))))
    (bool_cases (list_all test xs))

-- marks whose words are all 0

word-bit : (marks : List ℕ) (k : ℕ) → get_or marks (k / 32) 0 ≡ 0 → bit_at marks k ≡ false
unfolding bit_at has_bit
word-bit marks k e = rw e (ap (λ (w : ℕ). eqb (w % 2) 1) (zero-div (2 ^ (k % 32))))

pub none-set : (marks : List ℕ) → all_below (λ i. eqb (get_or marks i 0) 0) (length marks) ≡ true → (k : ℕ) → k < 32 * length marks
    → bit_at marks k ≡ false
none-set marks all k inside =
    word-bit marks k
    (eqb-true (get_or marks (k / 32) 0) 0 (all-at (λ i. eqb (get_or marks i 0) 0) (length marks) all (k / 32) (omega arith)))
