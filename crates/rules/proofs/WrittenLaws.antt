-- Of a table that was written, questions 2 to 6 hold, and the others are those of the program.
use mathlib.Core.Bool.{Bool, true, false}
use mathlib.Core.List.{List}
use mathlib.Core.Path.{◌≡◌, refl, ◌∙◌, ap, subst}
use Prim.Native.Nat.{ℕ, zero, suc, ◌+◌, ◌-◌, ◌*◌, ◌/◌, ◌%◌, ◌^◌, ◌≤◌, ◌<◌}
use native.Mathlib.Nat.{mul-mod_left, mul_left_comm}
use native.Mathlib.Omega.{arith}
use lib.Dec.{leb, eqb}
use lib.ListN.{length}
use borrow.Author.Tests.{lt-ltb, le-leb, eq-eqb}
use Rattle.rules.specs.Answers.{Accepted}
use Rattle.rules.specs.Encoding.{header_word, flag_bits, body_word, word_of, encode, Encodable, Bounded, WellWritten}
use Rattle.rules.specs.Evaluation.{bit}
use Rattle.rules.specs.Table.{Program, decode, word_at, edition, procedure_word}
use Rattle.rules.specs.Table.{variables, procedures, nodes, flagged, effect_flag}
use Rattle.rules.specs.WellFormed.{header_fits, procedure_fits, most_table_bytes, formed_by, well_built, well_formed}
use Rattle.rules.specs.WellFormed.{question2, question3, question4, question5, question6}
use Rattle.rules.proofs.AnswerLaws.{both_true, each-accepted}
use Rattle.rules.proofs.EncodingLaws.{bit-low, bytes-length, word_0, word_1, word-procedure, decode-encode}

-- flags that are all off from v on leave the low bits 0
flags_tail : (flag : ℕ → Bool) (v : ℕ) → ((a : ℕ) → v ≤ a → flag a ≡ false) → (k : ℕ)
    → flag_bits flag (v + k) ≡ flag_bits flag v * 2 ^ k
unfolding flag_bits
flags_tail flag v off zero = let e : v + 0 ≡ v = omega arith in rw e (omega arith)
flags_tail flag v off (suc k) =
    let e : v + suc k ≡ suc (v + k) = omega arith in
    let b : bit (flag (v + k)) ≡ 0 = ap bit (off (v + k) (omega arith)) in
    let p : 2 ^ suc k ≡ 2 * 2 ^ k = omega arith in
    let m : flag_bits flag v * (2 * 2 ^ k) ≡ 2 * (flag_bits flag v * 2 ^ k) = swap (flag_bits flag v) (2 ^ k) in
    rw (e, p, m) (omega (arith, b, flags_tail flag v off k))
  where
    swap : (x y : ℕ) → x * (2 * y) ≡ 2 * (x * y)
    swap x y = mul_left_comm x 2 y

module _ (program : Program) (fit : Encodable program) (bounds : Bounded program) where
  abbrev table : List ℕ
  table = encode program

  same : decode table ≡ program
  same = decode-encode program fit

  long : length table ≡ 4 * (2 + procedures program + nodes program)
  unfolding encode
  long = bytes-length (word_of program) _

  passes2 : question2 table ≡ Accepted
  passes2 =
      let size = long in
      let whole : eqb (length table % 4) 0 ≡ true = eq-eqb (length table % 4) 0 (omega (arith, size)) in
      let low : leb 16 (length table) ≡ true =
      le-leb 16 (length table) (omega (arith, size, bounds.procedures-low, bounds.nodes-low)) in
      let high : leb (length table) most_table_bytes ≡ true =
      le-leb (length table) most_table_bytes (omega (arith, size, bounds.procedures-high, bounds.nodes-high)) in
      simp (whole, low, high)

  passes3 : question3 table ≡ Accepted
  unfolding header_fits edition header_word
  passes3 =
      let w = word_0 program fit in
      let one : word_at table 0 / 2 ^ 28 ≡ 1 = omega (arith, w, fit.variables-fit, fit.procedures-fit, fit.nodes-fit) in
      let low : word_at table 0 % 2 ^ 8 ≡ 0 = omega (arith, w) in
      simp (
        same,
        one,
        low,
        le-leb 1 (variables program) bounds.variables-low,
        le-leb (variables program) 32 bounds.variables-high,
        le-leb 1 (procedures program) bounds.procedures-low,
        le-leb (procedures program) 16 bounds.procedures-high,
        le-leb 1 (nodes program) bounds.nodes-low,
        le-leb (nodes program) 256 bounds.nodes-high,
      )

  passes4 : question4 table ≡ Accepted
  passes4 =
      let size = 4 * (2 + procedures program + nodes program) in
      simp (same, long, eq-eqb size size refl)

  passes5 : question5 table ≡ Accepted
  passes5 =
      let v = variables program in
      let all : 32 ≡ v + (32 - v) = omega (arith, bounds.variables-high) in
      let word : word_at table 1 ≡ flag_bits (flagged program) v * 2 ^ (32 - v) =
      word_1 program fit ∙ (ap (flag_bits (flagged program)) all ∙ flags_tail (flagged program) v bounds.flags_off (32 - v)) in
      simp (same, word, mul-mod_left (flag_bits (flagged program) v) (2 ^ (32 - v)))

  passes6 : question6 table ≡ Accepted
  unfolding procedure_fits procedure_word body_word
  passes6 =
      each-accepted 6 _ _
      (λ p l.
      let inside : p < procedures program = subst (λ x. p < procedures x) same l in
      let w = word-procedure program fit p inside in
      let low : word_at table (2 + p) % 2 ^ 23 ≡ 0 = omega (arith, w, bit-low (effect_flag program p)) in
      both_true _ _ (eq-eqb _ _ low) (simp same (lt-ltb _ _ (bounds.bodies-below p inside))))

pub well-written : WellWritten
unfolding well_formed well_built formed_by
well-written program fit bounds =
    let asked : well_formed (encode program) ≡ formed_by (decode (encode program)) =
    simp (
      passes2 program fit bounds,
      passes3 program fit bounds,
      passes4 program fit bounds,
      passes5 program fit bounds,
      passes6 program fit bounds,
    ) in
    asked ∙ ap formed_by (decode-encode program fit)
