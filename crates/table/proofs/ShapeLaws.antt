-- Questions 2 to 5: the code's bracketing of question 3, and what an accepted shape says of the table.
use mathlib.Core.Bool.{Bool, true, false, ◌&&◌, and_assoc}
use mathlib.Core.List.{List}
use mathlib.Core.Path.{◌≡◌, refl, ap}
use Prim.Native.Nat.{ℕ, ◌+◌, ◌*◌, ◌-◌, ◌/◌, ◌%◌, ◌^◌, ◌≤◌}
use native.Mathlib.Omega.{arith}
use lib.Dec.{leb, eqb}
use lib.ListN.{length}
use borrow.Author.Tests.{leb-true, eqb-true, eq-eqb, ne_eqb}
use Rattle.rules.specs.Answers.{Accepted, refused, ask}
use Rattle.rules.specs.Table.{decode, word_at, edition, variables, procedures, nodes, node_at, unpacked}
use Rattle.rules.specs.WellFormed.{header_fits, is_statement, question2, question3, question4}
use Rattle.rules.proofs.Formed.{word-past}
use Rattle.rules.proofs.AnswerLaws.{both_left, both_right, then_first, then_rest, ask_holds}
use Rattle.table.specs.declared.Header.{Header}
use Rattle.table.specs.Header.{header_of}
use Rattle.table.specs.Sized.{Sized, header_test, shape_verdict}

pub header_law : (table : List ℕ) → header_fits table ≡ header_test (word_at table 0) (header_of table)
unfolding header_fits header_of edition
header_law table = simp and_assoc

-- a length that passes question 2 has word 0 and word 1
pub long : (bytes : ℕ) → (eqb (bytes % 4) 0 && leb 16 bytes && leb bytes 1096) ≡ true → 16 ≤ bytes
long bytes h = leb-true 16 bytes (both_right (eqb (bytes % 4) 0) (leb 16 bytes) (both_left _ (leb bytes 1096) h))

-- a count that lies between its bounds
abbrev Between : ℕ → ℕ → ℕ → Type 0
Between low x high = (low ≤ x) × (x ≤ high)

between_true : (low x high : ℕ) → (leb low x && leb x high) ≡ true → Between low x high
between_true low x high h = (leb-true low x (both_left _ (leb x high) h), leb-true x high (both_right (leb low x) _ h))

pub record Bounded (h : Header) : Type 0 where
  pub variables : Between 1 h.variables 32
  pub procedures : Between 1 h.procedures 16
  pub nodes : Between 1 h.nodes 256

pub bounded : (first : ℕ) (h : Header) → header_test first h ≡ true → Bounded h
bounded first h e =
    let from-variables = both_right (eqb (first / 268435456) 1) _ e in
    let from-procedures = both_right (leb 1 h.variables && leb h.variables 32) _ from-variables in
    let from-nodes = both_right (leb 1 h.procedures && leb h.procedures 16) _ from-procedures in
    record {
      variables = between_true 1 h.variables 32 (both_left (leb 1 h.variables && leb h.variables 32) _ from-variables);
      procedures =
          between_true 1 h.procedures 16 (both_left (leb 1 h.procedures && leb h.procedures 16) _ from-procedures);
      nodes = between_true 1 h.nodes 256 (both_left (leb 1 h.nodes && leb h.nodes 256) _ from-nodes);
    }

pub sized : (table : List ℕ) → shape_verdict table ≡ Accepted → Sized table (header_of table)
unfolding shape_verdict header_of
sized table h =
    let after2 = then_rest (question2 table) _ h in
    let after3 = then_rest (question3 table) _ after2 in
    let fits : header_test (word_at table 0) (header_of table) ≡ true =
    rw (← header_law table) (ask_holds 3 (header_fits table) (then_first (question3 table) _ after2)) in
    let bounds = bounded (word_at table 0) (header_of table) fits in
    record {
      read = refl;
      variables-read = refl;
      procedures-read = refl;
      nodes-read = refl;
      variables-low = bounds.variables.0;
      variables-high = bounds.variables.1;
      procedures-low = bounds.procedures.0;
      procedures-high = bounds.procedures.1;
      nodes-low = bounds.nodes.0;
      nodes-high = bounds.nodes.1;
      size = eqb-true _ _ (ask_holds 4 _ (then_first (question4 table) _ after3));
    }

-- what each answer of `shape` follows from
module _ (table : List ℕ) where
  abbrev pub LengthTest : Bool
  LengthTest = eqb (length table % 4) 0 && leb 16 (length table) && leb (length table) 1096

  pub refused2 : LengthTest ≡ false → shape_verdict table ≡ refused 2 0
  unfolding shape_verdict
  refused2 e = simp e

  pub refused3 : LengthTest ≡ true → header_fits table ≡ false → shape_verdict table ≡ refused 3 0
  unfolding shape_verdict
  refused3 e f = simp (e, f)

  pub refused4 : LengthTest ≡ true → header_fits table ≡ true
      → (length table ≡ 4 * (2 + procedures (decode table) + nodes (decode table)) → ⊥)
      → shape_verdict table ≡ refused 4 0
  unfolding shape_verdict
  refused4 e f g = simp (e, f, ne_eqb (length table) (4 * (2 + procedures (decode table) + nodes (decode table))) g)

  pub answered5 : (flags : Bool) → LengthTest ≡ true → header_fits table ≡ true
      → length table ≡ 4 * (2 + procedures (decode table) + nodes (decode table))
      → flags ≡ eqb (word_at table 1 % 2 ^ (32 - variables (decode table))) 0
      → shape_verdict table ≡ ask 5 flags
  unfolding shape_verdict
  answered5 flags e f g h = simp (e, f, h, eq-eqb (length table) (4 * (2 + procedures (decode table) + nodes (decode table))) g)

-- the counts of a header that was read
module _ (table : List ℕ) (h : Header) (e : h ≡ header_of table) where
  pub read-variables : h.variables ≡ variables (decode table)
  unfolding header_of
  read-variables = ap (λ (x : Header). x.variables) e

  pub read-procedures : h.procedures ≡ procedures (decode table)
  unfolding header_of
  read-procedures = ap (λ (x : Header). x.procedures) e

  pub read-nodes : h.nodes ≡ nodes (decode table)
  unfolding header_of
  read-nodes = ap (λ (x : Header). x.nodes) e

-- a node past the last is no statement
pub statement-past : (table : List ℕ) (h : Header) → Sized table h → (n : ℕ) → nodes (decode table) ≤ n
    → is_statement (decode table) n ≡ false
unfolding is_statement decode procedures node_at unpacked
statement-past table h s n l =
    let past : word_at table (2 + procedures (decode table) + n) ≡ 0 =
    word-past table (2 + procedures (decode table) + n) (omega (arith, s.size)) in
    simp past
