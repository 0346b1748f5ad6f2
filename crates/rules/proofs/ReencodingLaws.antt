-- What a well-formed table says, written out, is that table.
use mathlib.Core.Bool.{Bool}
use mathlib.Core.List.{List}
use mathlib.Core.Path.{◌≡◌, refl, sym, ◌∙◌, ap}
use Prim.Native.Nat.{ℕ, zero, suc, ◌+◌, ◌-◌, ◌*◌, ◌/◌, ◌%◌, ◌^◌, ◌≤◌, ◌<◌}
use native.Mathlib.Decide.{dec_lt}
use native.Mathlib.Nat.{div-div-eq-div-mul, div-eq_of_lt}
use native.Mathlib.Omega.{arith}
use lib.Dec.{eqb}
use lib.ListN.{length, get_or}
use lib.Seq.{ext_get_or}
use borrow.Author.Tests.{eqb-true, lt-ltb}
use Rattle.rules.specs.Encoding.{word_bytes, header_word, flag_bits, body_word, packed, word_of, encode, Bytes, EncodeDecode}
use Rattle.rules.specs.Evaluation.{bit}
use Rattle.rules.specs.Table.{decode, word_at, edition, procedure_word, unpacked}
use Rattle.rules.specs.Table.{variables, procedures, nodes, flagged, body, effect_flag, node_at}
use Rattle.rules.specs.WellFormed.{procedure_fits}
use Rattle.rules.proofs.AnswerLaws.{both_left}
use Rattle.rules.proofs.EncodingLaws.{bytes-length, byte_at, word_of-procedure, word_of-node}
use Rattle.rules.proofs.Formed.{Passes, well-passes, header}

-- a word and its bytes
module _ (table : List ℕ) (bytes : Bytes table) (i : ℕ) where
  word_fits : word_at table i < 2 ^ 32
  unfolding word_at
  word_fits = omega (arith, bytes (4 * i), bytes (4 * i + 1), bytes (4 * i + 2), bytes (4 * i + 3))

  byte_of_word : (j : ℕ) → j < 4 → get_or (word_bytes (word_at table i)) j 0 ≡ get_or table (4 * i + j) 0
  unfolding word_bytes word_at
  byte_of_word zero h =
      let here : get_or table (4 * i) 0 ≡ get_or table (4 * i + 0) 0 = ap (λ k. get_or table k 0) (omega arith) in
      omega (arith, here, bytes (4 * i), bytes (4 * i + 1), bytes (4 * i + 2), bytes (4 * i + 3))
  byte_of_word (suc zero) h = omega (arith, bytes (4 * i), bytes (4 * i + 1), bytes (4 * i + 2), bytes (4 * i + 3))
  byte_of_word (suc (suc zero)) h = omega (arith, bytes (4 * i), bytes (4 * i + 1), bytes (4 * i + 2), bytes (4 * i + 3))
  byte_of_word (suc (suc (suc zero))) h =
      omega (arith, bytes (4 * i), bytes (4 * i + 1), bytes (4 * i + 2), bytes (4 * i + 3))
  byte_of_word (suc (suc (suc (suc j)))) h = absurd (omega arith)

-- the fields of a word, put together again
pub packed-unpacked : (w : ℕ) → packed (unpacked w) ≡ w
unfolding packed unpacked
packed-unpacked w =
    let x = div-div-eq-div-mul w (2 ^ 9) (2 ^ 9) in
    let y = div-div-eq-div-mul w (2 ^ 18) (2 ^ 9) in
    omega (arith, x, y)

bit-eqb : (y : ℕ) → y < 2 → bit (eqb y 1) ≡ y
bit-eqb zero h = refl
bit-eqb (suc zero) h = refl
bit-eqb (suc (suc y)) h = absurd (omega arith)

header-parts : (w : ℕ) → w / 2 ^ 28 ≡ 1 → w % 2 ^ 8 ≡ 0
    → 2 ^ 28 + w / 2 ^ 22 % 64 * 2 ^ 22 + w / 2 ^ 17 % 32 * 2 ^ 17 + w / 2 ^ 8 % 512 * 2 ^ 8 ≡ w
header-parts w e z =
    let x = div-div-eq-div-mul w (2 ^ 8) (2 ^ 9) in
    let y = div-div-eq-div-mul w (2 ^ 17) (2 ^ 5) in
    let v = div-div-eq-div-mul w (2 ^ 22) (2 ^ 6) in
    omega (arith, x, y, v)

body-parts : (w : ℕ) → w % 2 ^ 23 ≡ 0 → w / 2 ^ 24 * 2 ^ 24 + bit (eqb (w / 2 ^ 23 % 2) 1) * 2 ^ 23 ≡ w
body-parts w z =
    let x = div-div-eq-div-mul w (2 ^ 23) 2 in
    let b = bit-eqb (w / 2 ^ 23 % 2) (omega arith) in
    omega (arith, x, b)

flag_parts : (w : ℕ) → w < 2 ^ 32 → (flag : ℕ → Bool) → ((a : ℕ) → a < 32 → bit (flag a) ≡ w / 2 ^ (31 - a) % 2)
    → (n : ℕ) → n ≤ 32 → flag_bits flag n ≡ w / 2 ^ (32 - n)
unfolding flag_bits
flag_parts w h flag is zero l = sym (div-eq_of_lt h)
flag_parts w h flag is (suc n) l =
    let x = w / 2 ^ (31 - n) in
    let power : 32 - n ≡ suc (31 - n) = omega arith in
    let next : 32 - suc n ≡ 31 - n = omega arith in
    let twice : 2 ^ suc (31 - n) ≡ 2 ^ (31 - n) * 2 = omega arith in
    let half : w / 2 ^ (32 - n) ≡ x / 2 =
    ap (λ k. w / 2 ^ k) power ∙ (ap (λ k. w / k) twice ∙ sym (div-div-eq-div-mul w (2 ^ (31 - n)) 2)) in
    rw next (omega (arith, flag_parts w h flag is n (omega arith), half, is n (omega arith)))

-- each word that a table says is the word of the table
module _ (table : List ℕ) (q : Passes table) where
  word_0 : header_word (decode table) ≡ word_at table 0
  unfolding header_word decode variables procedures nodes edition
  word_0 = let word = header table q.header in header-parts (word_at table 0) word.first-edition word.rest-zero

  pub word_1 : word_at table 1 < 2 ^ 32 → flag_bits (flagged (decode table)) 32 ≡ word_at table 1
  unfolding decode flagged
  word_1 h =
      let w = word_at table 1 in
      flag_parts w h (flagged (decode table))
      (λ a l. simp (lt-ltb a 32 l) (bit-eqb (w / 2 ^ (31 - a) % 2) (omega arith))) 32 (omega arith)
      ∙ omega arith

  pub word-procedure : (p : ℕ) → p < procedures (decode table)
      → body_word (body (decode table) p) (effect_flag (decode table) p) ≡ word_at table (2 + p)
  unfolding body_word decode body effect_flag procedures procedure_word procedure_fits
  word-procedure p l =
      simp (lt-ltb p _ l) (body-parts (word_at table (2 + p)) (eqb-true _ _ (both_left _ _ (q.procedure p l))))

pub word-node : (table : List ℕ) (n : ℕ) → packed (node_at (decode table) n) ≡ word_at table (2 + procedures (decode table) + n)
unfolding decode node_at procedures
word-node table n = packed-unpacked _

module _ (table : List ℕ) (bytes : Bytes table) (q : Passes table) where
  first_two : (i : ℕ) → i < 2 → word_of (decode table) i ≡ word_at table i
  unfolding word_of
  first_two zero l = word_0 table q
  first_two (suc zero) l = word_1 table q (word_fits table bytes 1)
  first_two (suc (suc i)) l = absurd (omega arith)

  word_same : (i : ℕ) → word_of (decode table) i ≡ word_at table i
  word_same i =
      elim (dec_lt i 2) [
        | yes l ↦ first_two i l
        | no m ↦
            elim (dec_lt (i - 2) (procedures (decode table))) [
              | yes l ↦
                  let e : i ≡ 2 + (i - 2) = omega arith in
                  rw e (word_of-procedure (decode table) (i - 2) l ∙ word-procedure table q (i - 2) l)
              | no g ↦
                  let n = i - 2 - procedures (decode table) in
                  let e : i ≡ 2 + procedures (decode table) + n = omega arith in
                  rw e (word_of-node (decode table) n ∙ word-node table n)
            ]
      ]

  same_length : length (encode (decode table)) ≡ length table
  unfolding encode
  same_length = bytes-length (word_of (decode table)) _ ∙ sym q.sized

  same_byte : (k : ℕ) → k < length (encode (decode table)) → get_or (encode (decode table)) k 0 ≡ get_or table k 0
  unfolding encode
  same_byte k l =
      let i = k / 4 in
      let j = k % 4 in
      let e : k ≡ 4 * i + j = omega arith in
      let here : i < 2 + procedures (decode table) + nodes (decode table) = omega (arith, same_length, q.sized) in
      ap (λ x. get_or (encode (decode table)) x 0) e
      ∙ (byte_at (word_of (decode table)) _ i j here (omega arith)
      ∙ (ap (λ w. get_or (word_bytes w) j 0) (word_same i)
      ∙ (byte_of_word table bytes i j (omega arith) ∙ ap (λ x. get_or table x 0) (sym e))))

pub encode-decode : EncodeDecode
encode-decode table e bytes =
    let q = well-passes table e in
    ext_get_or 0 (encode (decode table)) table (same_length table bytes q) (same_byte table bytes q)
