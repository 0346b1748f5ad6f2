-- What a well-formed table is: the facts behind the answer of questions 2 to 12, in one record, and behind that of 26.
use mathlib.Core.Bool.{true, ◌&&◌}
use mathlib.Core.List.{List}
use mathlib.Core.Path.{◌≡◌, ap}
use Prim.Native.Nat.{ℕ, ◌+◌, ◌-◌, ◌*◌, ◌%◌, ◌^◌, ◌≤◌, ◌<◌}
use native.Mathlib.Decide.{dec_lt}
use native.Mathlib.Omega.{arith}
use lib.Dec.{leb, ltb, eqb}
use lib.ListN.{length, get_or, get_or-eq_default}
use borrow.Author.Tests.{leb-true, ltb-true, eqb-true}
use Rattle.rules.specs.Answers.{Accepted}
use Rattle.rules.specs.Table.{Program, decode, constant, nothing, leave, expression_of, statement_of, expression_at, statement_at}
use Rattle.rules.specs.Table.{word_at, edition, variables, procedures, nodes, procedure_word, body, unpacked, node_at}
use Rattle.rules.specs.WellFormed.{question2, question3, question4, question5, question6, question7, question8}
use Rattle.rules.specs.WellFormed.{question9, question10, question11, question26, header_fits, procedure_fits}
use Rattle.rules.specs.WellFormed.{is_statement, kind_known, unnamed_zero, node_fits, expression_fits, statement_fits}
use Rattle.rules.specs.WellFormed.{occurrences, uses, used_once, called_below, nearest_loop, leave_enclosed}
use Rattle.rules.specs.WellFormed.{well_built, well_formed}
use Rattle.rules.proofs.AnswerLaws.{both_left, both_right, then_first, then_rest, ask_holds, each-passed}
use Rattle.rules.proofs.ChoiceLaws.{Passed}

-- A node past the last reads as the constant 0 and as nothing, so what is said of nodes holds of every number.
pub record Formed (program : Program) : Type 0 where
  pub variables-low : 1 ≤ variables program
  pub variables-high : variables program ≤ 32
  pub procedures-low : 1 ≤ procedures program
  pub procedures-high : procedures program ≤ 16
  pub nodes-low : 1 ≤ nodes program
  pub nodes-high : nodes program ≤ 256
  pub body_below : (p : ℕ) → p < procedures program → body program p < nodes program
  pub body-statement : (p : ℕ) → p < procedures program → is_statement program (body program p) ≡ true
  pub known : (n : ℕ) → n < nodes program → kind_known program n ≡ true
  pub past : (n : ℕ) → nodes program ≤ n → node_at program n ≡ unpacked 0
  pub expression-fits : (n : ℕ) → expression_fits program n (expression_at program n) ≡ true
  pub statement-fits : (n : ℕ) → statement_fits program n (statement_at program n) ≡ true
  pub used-once : (n : ℕ) → n < nodes program → occurrences n (uses program) ≡ 1
  pub called-below : (n : ℕ) → called_below program n (statement_at program n) ≡ true

-- a leave has a while around it
abbrev pub Enclosed : Program → Type 0
Enclosed program = (n : ℕ) → statement_at program n ≡ leave → nearest_loop program n < nodes program

-- a word past the table's end reads as 0
pub word-past : (table : List ℕ) (i : ℕ) → length table ≤ 4 * i → word_at table i ≡ 0
unfolding word_at
word-past table i h =
    let e0 : get_or table (4 * i) 0 ≡ 0 = get_or-eq_default table 0 h in
    let e1 : get_or table (4 * i + 1) 0 ≡ 0 = get_or-eq_default table 0 (omega arith) in
    let e2 : get_or table (4 * i + 2) 0 ≡ 0 = get_or-eq_default table 0 (omega arith) in
    let e3 : get_or table (4 * i + 3) 0 ≡ 0 = get_or-eq_default table 0 (omega arith) in
    simp (e0, e1, e2, e3)

-- the length that word 0 tells
abbrev pub Exact : List ℕ → Type 0
Exact table = length table ≡ 4 * (2 + procedures (decode table) + nodes (decode table))

node-past : (table : List ℕ) → Exact table → (n : ℕ) → nodes (decode table) ≤ n → node_at (decode table) n ≡ unpacked 0
unfolding decode procedures nodes node_at
node-past table sized n h = ap unpacked (word-past table (2 + procedures (decode table) + n) (omega (arith, sized)))

module _ (program : Program) (n : ℕ) (blank : node_at program n ≡ unpacked 0) where
  -- a node past the last reads as the constant 0 and as nothing
  expression_blank : expression_at program n ≡ constant 0
  unfolding expression_at expression_of unpacked
  expression_blank = ap expression_of blank

  statement_blank : statement_at program n ≡ nothing
  unfolding statement_at statement_of unpacked
  statement_blank = ap statement_of blank

module _ (program : Program) (formed : Formed program) (n : ℕ) (h : nodes program ≤ n) where
  pub expression-past : expression_at program n ≡ constant 0
  expression-past = expression_blank program n (formed.past n h)

  pub statement-past : statement_at program n ≡ nothing
  statement-past = statement_blank program n (formed.past n h)

-- what questions 2 to 12 ask, once each is passed
pub record Passes (table : List ℕ) : Type 0 where
  pub header : header_fits table ≡ true
  pub sized : Exact table
  pub unflagged : word_at table 1 % 2 ^ (32 - variables (decode table)) ≡ 0
  pub procedure : Passed (procedure_fits table) (procedures (decode table))
  pub known : Passed (kind_known (decode table)) (nodes (decode table))
  pub unnamed : Passed (λ n. unnamed_zero (node_at (decode table) n)) (nodes (decode table))
  pub fits : Passed (node_fits (decode table)) (nodes (decode table))
  pub statement : Passed (λ p. is_statement (decode table) (body (decode table) p)) (procedures (decode table))
  pub once : Passed (used_once (decode table)) (nodes (decode table))
  pub called : Passed (λ n. called_below (decode table) n (statement_at (decode table) n)) (nodes (decode table))

passes : (table : List ℕ) → well_built table ≡ Accepted → Passes table
unfolding well_built
passes table e =
    let after2 = then_rest (question2 table) _ e in
    let after3 = then_rest (question3 table) _ after2 in
    let after4 = then_rest (question4 table) _ after3 in
    let after5 = then_rest (question5 table) _ after4 in
    let after6 = then_rest (question6 table) _ after5 in
    let after7 = then_rest (question7 (decode table)) _ after6 in
    let after8 = then_rest (question8 (decode table)) _ after7 in
    let after9 = then_rest (question9 (decode table)) _ after8 in
    let after10 = then_rest (question10 (decode table)) _ after9 in
    record {
      header = ask_holds 3 _ (then_first (question3 table) _ after2);
      sized = eqb-true _ _ (ask_holds 4 _ (then_first (question4 table) _ after3));
      unflagged = eqb-true _ _ (ask_holds 5 _ (then_first (question5 table) _ after4));
      procedure = each-passed 6 _ _ (then_first (question6 table) _ after5);
      known = each-passed 7 _ _ (then_first (question7 (decode table)) _ after6);
      unnamed = each-passed 8 _ _ (then_first (question8 (decode table)) _ after7);
      fits = each-passed 9 _ _ (then_first (question9 (decode table)) _ after8);
      statement = each-passed 10 _ _ (then_first (question10 (decode table)) _ after9);
      once = each-passed 11 _ _ (then_first (question11 (decode table)) _ after10);
      called = each-passed 12 _ _ (then_rest (question11 (decode table)) _ after10);
    }

-- what word 0 says
pub record Header (table : List ℕ) : Type 0 where
  pub first-edition : edition table ≡ 1
  pub variables-low : 1 ≤ variables (decode table)
  pub variables-high : variables (decode table) ≤ 32
  pub procedures-low : 1 ≤ procedures (decode table)
  pub procedures-high : procedures (decode table) ≤ 16
  pub nodes-low : 1 ≤ nodes (decode table)
  pub nodes-high : nodes (decode table) ≤ 256
  pub rest-zero : word_at table 0 % 2 ^ 8 ≡ 0

pub header : (table : List ℕ) → header_fits table ≡ true → Header table
unfolding header_fits
header table e =
    let one = eqb (edition table) 1 in
    let v1 = leb 1 (variables (decode table)) in
    let v2 = leb (variables (decode table)) 32 in
    let p1 = leb 1 (procedures (decode table)) in
    let p2 = leb (procedures (decode table)) 16 in
    let n1 = leb 1 (nodes (decode table)) in
    let n2 = leb (nodes (decode table)) 256 in
    let low = eqb (word_at table 0 % 2 ^ 8) 0 in
    let seven = both_left (one && v1 && v2 && p1 && p2 && n1 && n2) low e in
    let six = both_left (one && v1 && v2 && p1 && p2 && n1) n2 seven in
    let five = both_left (one && v1 && v2 && p1 && p2) n1 six in
    let four = both_left (one && v1 && v2 && p1) p2 five in
    let three = both_left (one && v1 && v2) p1 four in
    let two = both_left (one && v1) v2 three in
    record {
      first-edition = eqb-true _ _ (both_left one v1 two);
      variables-low = leb-true _ _ (both_right one v1 two);
      variables-high = leb-true _ _ (both_right (one && v1) v2 three);
      procedures-low = leb-true _ _ (both_right (one && v1 && v2) p1 four);
      procedures-high = leb-true _ _ (both_right (one && v1 && v2 && p1) p2 five);
      nodes-low = leb-true _ _ (both_right (one && v1 && v2 && p1 && p2) n1 six);
      nodes-high = leb-true _ _ (both_right (one && v1 && v2 && p1 && p2 && n1) n2 seven);
      rest-zero = eqb-true _ _ (both_right (one && v1 && v2 && p1 && p2 && n1 && n2) low e);
    }

pub built : (table : List ℕ) → well_built table ≡ Accepted → Formed (decode table)
unfolding procedure_fits node_fits used_once expression_fits statement_fits called_below
built table e =
    let q : Passes table = passes table e in
    let counts : Header table = header table q.header in
    let past : (n : ℕ) → (n < nodes (decode table) → ⊥) → nodes (decode table) ≤ n = λ n m. omega arith in
    record {
      variables-low = counts.variables-low;
      variables-high = counts.variables-high;
      procedures-low = counts.procedures-low;
      procedures-high = counts.procedures-high;
      nodes-low = counts.nodes-low;
      nodes-high = counts.nodes-high;
      past = node-past table q.sized;
      body_below = λ p l.
          ltb-true (body (decode table) p) (nodes (decode table))
          (both_right (eqb (procedure_word table p % 2 ^ 23) 0) (ltb (body (decode table) p) (nodes (decode table))) (q.procedure p l));
      body-statement = q.statement;
      known = q.known;
      expression-fits = λ n.
          elim (dec_lt n (nodes (decode table))) [
            | yes l ↦
                both_left (expression_fits (decode table) n (expression_at (decode table) n)) (statement_fits (decode table) n (statement_at (decode table) n))
                (q.fits n l)
            | no m ↦ rw (expression_blank (decode table) n (node-past table q.sized n (past n m)))
          ];
      statement-fits = λ n.
          elim (dec_lt n (nodes (decode table))) [
            | yes l ↦
                both_right (expression_fits (decode table) n (expression_at (decode table) n)) (statement_fits (decode table) n (statement_at (decode table) n))
                (q.fits n l)
            | no m ↦ rw (statement_blank (decode table) n (node-past table q.sized n (past n m)))
          ];
      used-once = λ n l. eqb-true (occurrences n (uses (decode table))) 1 (q.once n l);
      called-below = λ n.
          elim (dec_lt n (nodes (decode table))) [
            | yes l ↦ q.called n l
            | no m ↦ rw (statement_blank (decode table) n (node-past table q.sized n (past n m)))
          ];
    }

pub built-exact : (table : List ℕ) → well_built table ≡ Accepted → Exact table
built-exact table e = (passes table e).sized

pub formed : (table : List ℕ) → well_formed table ≡ Accepted → Formed (decode table)
unfolding well_formed
formed table e = built table (then_first (well_built table) (question26 (decode table)) e)

pub well-passes : (table : List ℕ) → well_formed table ≡ Accepted → Passes table
unfolding well_formed
well-passes table e = passes table (then_first (well_built table) (question26 (decode table)) e)

pub exact : (table : List ℕ) → well_formed table ≡ Accepted → Exact table
unfolding well_formed
exact table e = built-exact table (then_first (well_built table) (question26 (decode table)) e)

pub enclosed : (table : List ℕ) → well_formed table ≡ Accepted → Enclosed (decode table)
unfolding well_formed leave_enclosed
enclosed table e n s =
    let passed = each-passed 26 (nodes (decode table)) (leave_enclosed (decode table)) (then_rest (well_built table) (question26 (decode table)) e) in
    elim (dec_lt n (nodes (decode table))) [
      | yes l ↦ ltb-true (nearest_loop (decode table) n) (nodes (decode table)) (rw s at (passed n l))
      | no m ↦
          let past = statement-past (decode table) (formed table e) n (omega arith) in
          let z : ◌≡◌ {A = ℕ} 0 1 = cc in
          absurd (omega arith)
    ]
