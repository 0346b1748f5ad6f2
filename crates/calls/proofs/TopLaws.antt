-- The highest bit of the highest word that is not 0 is the highest node of the marks.
use mathlib.Core.Bool.{true, false}
use mathlib.Core.List.{List}
use mathlib.Core.Path.{◌≡◌, sym, ◌∙◌, ap}
use Prim.Native.Nat.{ℕ, ◌+◌, ◌-◌, ◌*◌, ◌/◌, ◌%◌, ◌^◌, ◌≤◌, ◌<◌}
use native.Mathlib.Decide.{ℕ_discrete}
use native.Mathlib.Nat.{zero-div, div-eq_of_lt, div-lt_iff_lt-mul, one-mul}
use native.Mathlib.Omega.{arith}
use lib.ListN.{length, get_or, set, replicate, length-set, get_or-replicate}
use lib.Pow.{pow_pos, pow_mono, pow-add}
use lib.Seq.{get_or-set_same, get_or-set_other, ext_get_or}
use Rattle.std.proofs.Common.{None, Some}
use Rattle.table.specs.Marks.{has_bit, bit_at, with_bit}
use Rattle.table.proofs.BitLaws.{bit_added, bit_kept, bit-same, bit-other, shifted}
use Rattle.calls.specs.Walk.{ClearFrom, Topped, empty, taken}

low_bit : (w i : ℕ) → w < 2 ^ i → has_bit w i ≡ false
unfolding has_bit
low_bit w i l = simp (div-eq_of_lt l)

zero_bit : (i : ℕ) → has_bit 0 i ≡ false
unfolding has_bit
zero_bit i = simp zero-div

module _ (m : List ℕ) (size : length m ≡ 8) (k j : ℕ) (few : k < 8) (low : j < 32) (at_least_lem : 2 ^ j ≤ get_or m k 0)
    (under : get_or m k 0 < 2 * 2 ^ j) (above : ClearFrom m (k + 1)) where
  abbrev w : ℕ
  w = get_or m k 0

  abbrev rest : ℕ
  rest = get_or m k 0 - 2 ^ j

  abbrev n : ℕ
  n = 32 * k + j

  whole : rest + 2 ^ j ≡ w
  whole = omega arith

  clear : has_bit rest j ≡ false
  clear = low_bit rest j (omega arith)

  set-bit : has_bit w j ≡ true
  set-bit = rw whole at (bit_added rest j clear)

  others : (i : ℕ) → (i ≡ j → ⊥) → has_bit rest i ≡ has_bit w i
  others i other = sym (rw whole at (bit_kept rest j i other clear))

  word : n / 32 ≡ k
  word = omega arith

  place : n % 32 ≡ j
  place = omega arith

  over : (i : ℕ) → n < i → i < 256 → bit_at m i ≡ false
  unfolding bit_at
  over i more inside =
      elim (ℕ_discrete (i / 32) k) [
        | yes same ↦
            let higher : j + 1 ≤ i % 32 = omega arith in
            rw same (low_bit w (i % 32) (omega (arith, pow-add 2 j 1, pow_mono {i = j + 1} {j = i % 32} higher)))
        | no other ↦ rw (above (i / 32) (omega arith) (omega arith)) (zero_bit (i % 32))
      ]

  topped : Topped m (set m k rest) (Some n)
  unfolding bit_at
  topped =
      taken n (omega arith) (rw (word, place) set-bit) over
      (rw (word, place, get_or-set_same m k rest 0 (omega (arith, size))) clear)
      (λ i other.
      elim (ℕ_discrete (i / 32) k) [
        | yes same ↦
            rw (same, get_or-set_same m k rest 0 (omega (arith, size)))
            (others (i % 32) (λ e. other (omega arith)))
        | no differ ↦ rw (get_or-set_other m k (i / 32) rest 0 differ)
      ])
      (length-set m k rest ∙ size)
      (λ i higher low. get_or-set_other m k i rest 0 (λ e. omega arith) ∙ above i (omega arith) low)

pub none-topped : (m : List ℕ) → length m ≡ 8 → ClearFrom m 0 → Topped m m None
none-topped m size none =
    let zeros : m ≡ replicate 8 0 =
    ext_get_or 0 m (replicate 8 0) size
    (λ i l. none i (omega arith) (omega arith) ∙ sym (get_or-replicate 8 i 0 0 (omega arith))) in
    empty zeros zeros

-- as the code has it
pub top-answer : (m₀ m : List ℕ) (k j : ℕ) → m ≡ m₀ → length m₀ ≡ 8 → 0 < k → k ≤ 8 → j < 32
    → 2 ^ j ≤ get_or m (k - 1) 0 → get_or m (k - 1) 0 < 2 * 2 ^ j → ClearFrom m k
    → Topped m₀ (set m (k - 1) (get_or m (k - 1) 0 - (1 * 2 ^ j) % 2 ^ 32)) (Some (32 * (k - 1) + j))
top-answer m₀ m k j e size pos few low at_least_lem under above =
    rw (shifted j low, ← e)
    (topped m (ap length e ∙ size) (k - 1) j (omega arith) low at_least_lem under (λ i more inside. above i (omega arith) inside))

-- a node above which nothing waits is the highest once it waits too
module _ (m : List ℕ) (n a : ℕ) (size : length m ≡ 8) (few : n < 256) (below : a < n) (Clear-above : ClearFrom m (n / 32 + 1))
    (same : a / 32 ≡ n / 32) (none : get_or m (a / 32) 0 / 2 ^ (a % 32) ≡ 0) where
  low_word : get_or m (a / 32) 0 < 2 ^ (a % 32)
  low_word =
      let one : get_or m (a / 32) 0 / 2 ^ (a % 32) < 1 = omega arith in
      rw (one-mul (2 ^ (a % 32))) at ((div-lt_iff_lt-mul (pow_pos (a % 32))).0 one)

  free-from : (k : ℕ) → a ≤ k → k < 256 → bit_at m k ≡ false
  unfolding bit_at
  free-from k above inside =
      elim (ℕ_discrete (k / 32) (a / 32)) [
        | yes word ↦
            let higher : a % 32 ≤ k % 32 = omega arith in
            rw word (low_bit (get_or m (a / 32) 0) (k % 32) (omega (arith, low_word, pow_mono {i = a % 32} {j = k % 32} higher)))
        | no other ↦ rw (Clear-above (k / 32) (omega arith) (omega arith)) (zero_bit (k % 32))
      ]

  pub next-top : Topped (with_bit m a) m (Some a)
  next-top =
      taken a (omega arith) (bit-same m a (omega (arith, size)))
      (λ k above inside. bit-other m a k (λ e. omega arith) ∙ free-from k (omega arith) inside)
      (free-from a (omega arith) (omega arith))
      (λ k other. sym (bit-other m a k other))
      size
      (rw same Clear-above)
