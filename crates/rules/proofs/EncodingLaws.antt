-- What is written is read; and what the flags do not touch.
use mathlib.Core.Bool.{Bool, true, false, ◌&&◌}
use mathlib.Core.List.{List, ◌++◌}
use mathlib.Core.Logic.{⊎_elim}
use mathlib.Core.Path.{◌≡◌, refl, sym, ◌∙◌, ap}
use Prim.Native.Nat.{ℕ, zero, suc, ◌+◌, ◌-◌, ◌*◌, ◌/◌, ◌%◌, ◌^◌, ◌≤◌, ◌<◌}
use native.Mathlib.Decide.{dec_lt}
use native.Mathlib.Nat.{div-div-eq-div-mul, zero-div}
use native.Mathlib.Omega.{arith}
use lib.Dec.{leb, eqb}
use lib.ListN.{length, get_or, length-append, get_or-append}
use lib.Pow.{field, mod-mod-pow}
use lib.Seq.{get_or-append-add}
use borrow.Author.Tests.{lt-ltb, le-ltb, leb-true}
use Rattle.rules.specs.declared.Node.{Node}
use Rattle.rules.specs.Answers.{Accepted}
use Rattle.rules.specs.Encoding.{word_bytes, header_word, flag_bits, body_word, packed, word_of, encode, Encodable, DecodeEncode}
use Rattle.rules.specs.Encoding.{Bounded, reflagged}
use Rattle.rules.specs.Evaluation.{bit}
use Rattle.rules.specs.Judgement.{fixing, dead_in, live, counted}
use Rattle.rules.specs.Table.{Program, decode, word_at, procedure_word, unpacked}
use Rattle.rules.specs.Table.{variables, procedures, nodes, flagged, body, effect_flag, node_at, expression_at, statement_at}
use Rattle.rules.specs.WellFormed.{joined, is_expression, is_statement, kind_known, parts_at, loop_around, nearest_loop, well_formed}
use Rattle.rules.proofs.AnswerLaws.{both_right}
use Rattle.rules.proofs.AnywhereLaws.{either_cases}
use Rattle.rules.proofs.Formed.{formed, well-passes, word-past}

-- lists of four, joined
module _ (list : ℕ → List ℕ) (four : (i : ℕ) → length (list i) ≡ 4) where
  joined_length : (n : ℕ) → length (joined list n) ≡ 4 * n
  unfolding joined
  joined_length zero = refl
  joined_length (suc n) = length-append (joined list n) (list n) ∙ omega (arith, joined_length n, four n)

  joined_at : (n i j : ℕ) → i < n → j < 4 → get_or (joined list n) (4 * i + j) 0 ≡ get_or (list i) j 0
  unfolding joined
  joined_at zero i j h l = absurd (omega arith)
  joined_at (suc n) i j h l =
      elim (dec_lt i n) [
        | yes m ↦
            get_or-append (joined list n) (list n) 0 (4 * i + j) (omega (arith, joined_length n)) ∙ joined_at n i j m l
        | no m ↦
            let e : i ≡ n = omega arith in
            let place : 4 * n + j ≡ length (joined list n) + j = omega (arith, joined_length n) in
            rw e (ap (λ k. get_or (joined list n ++ list n) k 0) place ∙ get_or-append-add (joined list n) (list n) j 0)
      ]

-- words out of the bytes of words
module _ (word : ℕ → ℕ) where
  abbrev bytes_at : ℕ → List ℕ
  bytes_at i = word_bytes (word i)

  four_bytes : (i : ℕ) → length (bytes_at i) ≡ 4
  unfolding word_bytes
  four_bytes i = refl

  pub bytes-length : (n : ℕ) → length (joined bytes_at n) ≡ 4 * n
  bytes-length n = joined_length bytes_at four_bytes n

  pub byte_at : (n i j : ℕ) → i < n → j < 4 → get_or (joined bytes_at n) (4 * i + j) 0 ≡ get_or (word_bytes (word i)) j 0
  byte_at n i j h l = joined_at bytes_at four_bytes n i j h l

  word-written : (n i : ℕ) → i < n → word i < 2 ^ 32 → word_at (joined bytes_at n) i ≡ word i
  unfolding word_at word_bytes
  word-written n i h l =
      let e0 : get_or (joined bytes_at n) (4 * i) 0 ≡ word i / 2 ^ 24 =
      ap (λ k. get_or (joined bytes_at n) k 0) (omega arith) ∙ byte_at n i 0 h (omega arith) in
      let e1 : get_or (joined bytes_at n) (4 * i + 1) 0 ≡ word i / 2 ^ 16 % 256 = byte_at n i 1 h (omega arith) in
      let e2 : get_or (joined bytes_at n) (4 * i + 2) 0 ≡ word i / 2 ^ 8 % 256 = byte_at n i 2 h (omega arith) in
      let e3 : get_or (joined bytes_at n) (4 * i + 3) 0 ≡ word i % 256 = byte_at n i 3 h (omega arith) in
      rw (e0, e1, e2, e3) (whole (word i) l)
    where
      whole : (w : ℕ) → w < 2 ^ 32
          → w / 2 ^ 24 * 2 ^ 24 + w / 2 ^ 16 % 256 * 2 ^ 16 + w / 2 ^ 8 % 256 * 2 ^ 8 + w % 256 ≡ w
      whole w h =
          let a = div-div-eq-div-mul w (2 ^ 8) (2 ^ 8) in
          let b = div-div-eq-div-mul w (2 ^ 16) (2 ^ 8) in
          omega (arith, a, b)

-- a flag's bit
pub bit-low : (b : Bool) → bit b < 2
bit-low true = omega arith
bit-low false = omega arith

bit_test : (b : Bool) → eqb (bit b) 1 ≡ b
bit_test true = refl
bit_test false = refl

module _ (flag : ℕ → Bool) where
  flags-low : (n : ℕ) → flag_bits flag n < 2 ^ n
  unfolding flag_bits
  flags-low zero = omega arith
  flags-low (suc n) = omega (arith, flags-low n, bit-low (flag n))

  flag_bit : (n a : ℕ) → a < n → flag_bits flag n / 2 ^ (n - 1 - a) % 2 ≡ bit (flag a)
  unfolding flag_bits
  flag_bit zero a h = absurd (omega arith)
  flag_bit (suc n) a h =
      elim (dec_lt a n) [
        | yes l ↦
            let power : suc n - 1 - a ≡ suc (n - 1 - a) = omega arith in
            let half : (2 * flag_bits flag n + bit (flag n)) / 2 ≡ flag_bits flag n = omega (arith, bit-low (flag n)) in
            let twice : 2 ^ suc (n - 1 - a) ≡ 2 * 2 ^ (n - 1 - a) = omega arith in
            rw (power, twice)
            (ap (λ x. x % 2)
            (sym (div-div-eq-div-mul (2 * flag_bits flag n + bit (flag n)) 2 (2 ^ (n - 1 - a)))
            ∙ ap (λ x. x / 2 ^ (n - 1 - a)) half)
            ∙ flag_bit n a l)
        | no m ↦
            let e : a ≡ n = omega arith in
            let power : suc n - 1 - a ≡ 0 = omega arith in
            rw (power, e) (omega (arith, bit-low (flag n)))
      ]

unpacked-packed : (m : Node) → m.kind < 32 → (m.a < 512) × (m.b < 512) × (m.c < 512) → unpacked (packed m) ≡ m
unfolding unpacked packed
unpacked-packed m k f =
    let kind : packed m / 2 ^ 27 ≡ m.kind = omega (arith, k, f.0, f.1, f.2) in
    let a : packed m / 2 ^ 18 % 512 ≡ m.a = omega (arith, k, f.0, f.1, f.2) in
    let b : packed m / 2 ^ 9 % 512 ≡ m.b = omega (arith, k, f.0, f.1, f.2) in
    let c : packed m % 512 ≡ m.c = omega (arith, k, f.0, f.1, f.2) in
    λ i. record { kind = kind i; a = a i; b = b i; c = c i }

module _ (program : Program) where
  pub word_of-procedure : (p : ℕ) → p < procedures program
      → word_of program (2 + p) ≡ body_word (body program p) (effect_flag program p)
  unfolding word_of
  word_of-procedure p l =
      let e : 2 + p ≡ suc (suc p) = omega arith in
      rw e (simp (lt-ltb p (procedures program) l))

  pub word_of-node : (n : ℕ) → word_of program (2 + procedures program + n) ≡ packed (node_at program n)
  unfolding word_of
  word_of-node n =
      let e : 2 + procedures program + n ≡ suc (suc (procedures program + n)) = omega arith in
      let f : procedures program + n - procedures program ≡ n = omega arith in
      rw e (simp (le-ltb (procedures program + n) (procedures program) (omega arith), f))

module _ (program : Program) (fit : Encodable program) where
  abbrev count : ℕ
  count = 2 + procedures program + nodes program

  pub word_0 : word_at (encode program) 0 ≡ header_word program
  unfolding encode word_of header_word
  word_0 =
      word-written (word_of program) count 0 (omega arith)
      (omega (arith, fit.variables-fit, fit.procedures-fit, fit.nodes-fit))

  pub word_1 : word_at (encode program) 1 ≡ flag_bits (flagged program) 32
  unfolding encode word_of
  word_1 = word-written (word_of program) count 1 (omega arith) (flags-low (flagged program) 32)

  pub word-procedure : (p : ℕ) → p < procedures program
      → word_at (encode program) (2 + p) ≡ body_word (body program p) (effect_flag program p)
  unfolding encode body_word
  word-procedure p l =
      let e = word_of-procedure program p l in
      word-written (word_of program) count (2 + p) (omega arith)
      (rw e (omega (arith, fit.bodies-fit p l, bit-low (effect_flag program p))))
      ∙ e

  word-node : (n : ℕ) → n < nodes program → word_at (encode program) (2 + procedures program + n) ≡ packed (node_at program n)
  unfolding encode packed
  word-node n l =
      let e = word_of-node program n in
      word-written (word_of program) count (2 + procedures program + n) (omega arith)
      (rw e (omega (arith, fit.kinds_fit n l, (fit.fields_fit n l).0, (fit.fields_fit n l).1, (fit.fields_fit n l).2)))
      ∙ e

  word-behind : (n : ℕ) → nodes program ≤ n → word_at (encode program) (2 + procedures program + n) ≡ 0
  unfolding encode
  word-behind n l =
      word-past (encode program) (2 + procedures program + n)
      (omega (arith, bytes-length (word_of program) count))

  read-variables : (decode (encode program)).variables ≡ variables program
  unfolding decode header_word variables procedures nodes
  read-variables = rw word_0 (omega (arith, fit.variables-fit, fit.procedures-fit, fit.nodes-fit))

  read-procedures : (decode (encode program)).procedures ≡ procedures program
  unfolding decode header_word variables procedures nodes
  read-procedures = rw word_0 (omega (arith, fit.variables-fit, fit.procedures-fit, fit.nodes-fit))

  read-nodes : (decode (encode program)).nodes ≡ nodes program
  unfolding decode header_word variables procedures nodes
  read-nodes = rw word_0 (omega (arith, fit.variables-fit, fit.procedures-fit, fit.nodes-fit))

  read-flagged : (a : ℕ) → (decode (encode program)).flagged a ≡ flagged program a
  unfolding decode
  read-flagged a =
      elim (dec_lt a 32) [
        | yes l ↦
            simp (lt-ltb a 32 l, word_1, flag_bit (flagged program) 32 a l, bit_test (flagged program a))
        | no m ↦ simp (le-ltb a 32 (omega arith), fit.flags-past a (omega arith))
      ]

  read-body : (p : ℕ) → (decode (encode program)).body p ≡ body program p
  unfolding decode procedure_word body_word
  read-body p =
      elim (dec_lt p (procedures program)) [
        | yes l ↦
            simp (read-procedures, lt-ltb p (procedures program) l, word-procedure p l)
            (omega (arith, bit-low (effect_flag program p)))
        | no m ↦
            simp (read-procedures, le-ltb p (procedures program) (omega arith), fit.bodies-past p (omega arith))
      ]

  read-effect : (p : ℕ) → (decode (encode program)).effect_flag p ≡ effect_flag program p
  unfolding decode procedure_word body_word
  read-effect p =
      elim (dec_lt p (procedures program)) [
        | yes l ↦
            let bits : (body program p * 2 ^ 24 + bit (effect_flag program p) * 2 ^ 23) / 2 ^ 23 % 2 ≡ bit (effect_flag program p) =
            omega (arith, bit-low (effect_flag program p)) in
            simp (read-procedures, lt-ltb p (procedures program) l, word-procedure p l, bits, bit_test (effect_flag program p))
        | no m ↦
            simp (read-procedures, le-ltb p (procedures program) (omega arith), fit.effects_past p (omega arith))
      ]

  read-node : (n : ℕ) → (decode (encode program)).node n ≡ node_at program n
  unfolding decode
  read-node n =
      elim (dec_lt n (nodes program)) [
        | yes l ↦
            ap (λ k. unpacked (word_at (encode program) (2 + k + n))) read-procedures
            ∙ (ap unpacked (word-node n l) ∙ unpacked-packed (node_at program n) (fit.kinds_fit n l) (fit.fields_fit n l))
        | no m ↦
            ap (λ k. unpacked (word_at (encode program) (2 + k + n))) read-procedures
            ∙ (ap unpacked (word-behind n (omega arith)) ∙ sym (fit.nodes-past n (omega arith)))
      ]

pub decode-encode : DecodeEncode
unfolding variables procedures nodes flagged body effect_flag node_at
decode-encode program fit = λ i.
    record {
      variables = read-variables program fit i;
      procedures = read-procedures program fit i;
      nodes = read-nodes program fit i;
      flagged = λ a. read-flagged program fit a i;
      body = λ p. read-body program fit p i;
      effect_flag = λ p. read-effect program fit p i;
      node = λ n. read-node program fit n i;
    }

known-kind : (program : Program) (n : ℕ) → kind_known program n ≡ true → (node_at program n).kind < 32
unfolding kind_known is_expression is_statement
known-kind program n e =
    let k = (node_at program n).kind in
    ⊎_elim
    (λ (h : leb k 12 ≡ true). omega (arith, leb-true k 12 h))
    (λ (h : (leb 16 k && leb k 26) ≡ true). omega (arith, leb-true k 26 (both_right (leb 16 k) (leb k 26) h)))
    (either_cases (leb k 12) (leb 16 k && leb k 26) e)

-- a well-formed table's program can be written
pub encodable : (table : List ℕ) → well_formed table ≡ Accepted → Encodable (decode table)
unfolding decode variables procedures nodes flagged body effect_flag node_at unpacked
encodable table e =
    let shape = formed table e in
    record {
      variables-fit = omega (arith, shape.variables-high);
      procedures-fit = omega (arith, shape.procedures-high);
      nodes-fit = omega (arith, shape.nodes-high);
      flags-past = λ a l. simp (le-ltb a 32 l);
      bodies-fit = λ p l. omega (arith, shape.body_below p l, shape.nodes-high);
      bodies-past = λ p l. simp (le-ltb p _ l);
      effects_past = λ p l. simp (le-ltb p _ l);
      kinds_fit = λ n l. known-kind (decode table) n (shape.known n l);
      fields_fit = λ n l. (omega arith, omega arith, omega arith);
      nodes-past = shape.past;
    }

-- a bit among low ones that are all 0
bit-zero : (w d k : ℕ) → w % 2 ^ (d + 1 + k) ≡ 0 → w / 2 ^ k % 2 ≡ 0
bit-zero w d k e =
    sym (mod-mod-pow (w / 2 ^ k) d 1)
    ∙ ap (λ x. x % 2) (sym (field w (d + 1) k) ∙ (ap (λ x. x / 2 ^ k) e ∙ zero-div (2 ^ k)))

flags_off : (table : List ℕ) → well_formed table ≡ Accepted → (a : ℕ) → variables (decode table) ≤ a
    → flagged (decode table) a ≡ false
unfolding decode flagged
flags_off table e a h =
    elim (dec_lt a 32) [
      | yes l ↦
          let v = variables (decode table) in
          let places : 32 - v ≡ a - v + 1 + (31 - a) = omega arith in
          let zeros : word_at table 1 % 2 ^ (a - v + 1 + (31 - a)) ≡ 0 =
          ap (λ k. word_at table 1 % 2 ^ k) (sym places) ∙ (well-passes table e).unflagged in
          simp (lt-ltb a 32 l, bit-zero (word_at table 1) (a - v) (31 - a) zeros)
      | no m ↦ simp (le-ltb a 32 (omega arith))
    ]

-- and is as questions 3, 5 and 6 ask
pub bounded : (table : List ℕ) → well_formed table ≡ Accepted → Bounded (decode table)
bounded table e =
    let shape = formed table e in
    record {
      variables-low = shape.variables-low;
      variables-high = shape.variables-high;
      procedures-low = shape.procedures-low;
      procedures-high = shape.procedures-high;
      nodes-low = shape.nodes-low;
      nodes-high = shape.nodes-high;
      flags_off = flags_off table e;
      bodies-below = shape.body_below;
    }

-- other flags leave what is said of a program's loops and of what counts as it is
module _ (program : Program) (flags effects : ℕ → Bool) where
  pub reflagged-loop : nearest_loop (reflagged program flags effects) ≡ nearest_loop program
  unfolding reflagged nearest_loop loop_around statement_at node_at nodes
  reflagged-loop = refl

  pub reflagged-counted : counted (reflagged program flags effects) ≡ counted program
  unfolding reflagged counted live dead_in fixing parts_at expression_at statement_at node_at nodes
  reflagged-counted = refl
