-- The procedures of a sweep, and its end: the least refusal is that of questions 6 to 11 in their order.
use mathlib.Core.Bool.{Bool, true, false, cond}
use mathlib.Core.List.{List, [], ◌∷◌, ◌++◌, append_assoc, append-nil}
use mathlib.Core.Logic.{⊎_elim}
use mathlib.Core.Path.{◌≡◌, refl, sym, ◌∙◌, ap}
use Prim.Native.Nat.{ℕ, ◌+◌, ◌≤◌, ◌<◌, min}
use native.Mathlib.Decide.{dec_lt}
use native.Mathlib.Omega.{arith}
use lib.Dec.{ltb}
use lib.ListN.{length, replicate}
use borrow.Author.Tests.{lt-ltb, le-ltb}
use Rattle.rules.specs.Answers.{ask_each}
use Rattle.rules.specs.Choice.{first_failing}
use Rattle.rules.specs.Table.{Program, decode, procedures, nodes, node_at, body}
use Rattle.rules.specs.WellFormed.{procedure_fits, is_statement, kind_known, unnamed_zero, node_fits, parts_at, joined, uses, used_once}
use Rattle.rules.proofs.ChoiceLaws.{bool_cases}
use Rattle.table.specs.Marks.{bit_at, with_bit, with_bits}
use Rattle.table.specs.Uses.{repeated}
use Rattle.table.specs.declared.Header.{Header}
use Rattle.table.specs.Sized.{Sized}
use Rattle.table.proofs.BitLaws.{length-with_bit}
use Rattle.table.proofs.FittingLaws.{body-low}
use Rattle.table.proofs.UseLaws.{length-with_bits}
use Rattle.table.proofs.OnceLaws.{once-first}
use Rattle.visit.specs.Least.{none, code, failure, least_below, rank, verdict_of}
use Rattle.visit.specs.Exact.{repeated_code, node_best, node_marks}
use Rattle.visit.specs.Quick.{Quick}
use Rattle.sweep.specs.Swept.{filled_verdict, misused, Swept, failed, clean, node_code, body_code, body_best, body_marks}
use Rattle.sweep.specs.Swept.{unused_best, SweptTo, AfterNodes, AfterBodies, earlier}
use Rattle.visit.proofs.LeastLaws.{min_assoc, min_left_comm, least_more, least-high, least_both}
use Rattle.visit.proofs.LeastLaws.{Row, row_more, row_last, codes, each-least}
use Rattle.sweep.proofs.SweptLaws.{empty, more, fails, passes, misused-low, node_swept, joined-more}

-- marks keep their number

pub node-length : (program : Program) (n : ℕ) (marks : List ℕ) → length (node_marks program n marks) ≡ length marks
unfolding node_marks
node-length program n marks = by_three (kind_known program n) (unnamed_zero (node_at program n)) (node_fits program n)
  where
    by_three : (a b c : Bool)
        → length (cond a (cond b (cond c (with_bits marks (parts_at program n)) marks) marks) marks) ≡ length marks
    by_three true true true = length-with_bits marks (parts_at program n)
    by_three true true false = refl
    by_three true false c = refl
    by_three false b c = refl

pub body-length : (table : List ℕ) (p : ℕ) (marks : List ℕ) → length (body_marks table p marks) ≡ length marks
unfolding body_marks
body-length table p marks = by_two (procedure_fits table p) (is_statement (decode table) (body (decode table) p))
  where
    by_two : (a b : Bool) → length (cond a (cond b (with_bit marks (body (decode table) p)) marks) marks) ≡ length marks
    by_two true true = length-with_bit marks (body (decode table) p)
    by_two true false = refl
    by_two false b = refl

-- a node at which nothing fails

pub quick_swept : {program : Program} {n best : ℕ} {before after : List ℕ} → nodes program ≤ 256 → n < nodes program
    → Quick program n before after → SweptTo program n best before → SweptTo program (n + 1) best after
unfolding node_best node_marks
quick_swept {program} {n} {best} {before} {after} few below q so_far =
    let answer : node_best program n before best ≡ best = simp (q.known, q.zero, q.fits, q.fresh) in
    let left : node_marks program n before ≡ after = simp (q.known, q.zero, q.fits) (sym q.used) in
    rw (answer, left) at (node_swept program few n below best before so_far)

-- the uses of nodes as parts, and as bodies of the procedures below p
abbrev part_uses : Program → List ℕ
part_uses program = joined (parts_at program) (nodes program)

abbrev bodies : Program → ℕ → List ℕ
bodies program p = joined (λ q. body program q ∷ []) p

abbrev pub Entered : List ℕ → ℕ → ℕ → List ℕ → Type 0
Entered table p best marks =
    Swept (nodes (decode table)) (min (least_below (node_code (decode table)) (nodes (decode table))) (least_below (body_code table) p))
    (part_uses (decode table) ++ bodies (decode table) p) best marks

module _ (table : List ℕ) (few : nodes (decode table) ≤ 256) (p : ℕ) (below : p < 16) (best : ℕ) (marks : List ℕ)
    (so_far : Entered table p best marks) where
  abbrev Next : Type 0
  Next = Entered table (p + 1) (body_best table p marks best) (body_marks table p marks)

  body-fails : (f : ℕ) → body_code table p ≡ f → f < code 11 0 → body_best table p marks best ≡ min best f → Next
  body-fails f e low answer =
      let regroup : min (least_below (node_code (decode table)) (nodes (decode table))) (min (least_below (body_code table) p) f)
      ≡ min (min (least_below (node_code (decode table)) (nodes (decode table))) (least_below (body_code table) p)) f = omega arith in
      rw (least_more (body_code table) p, e, regroup, answer) (fails few f _ _ low so_far)

  body-passes : procedure_fits table p ≡ true → is_statement (decode table) (body (decode table) p) ≡ true → Next
  unfolding body_code body_best body_marks repeated_code with_bits
  body-passes fits statement =
      let passed : body_code table p ≡ none = simp (fits, statement) (omega arith) in
      let high : min (least_below (body_code table) p) none ≡ least_below (body_code table) p =
      omega (arith, least-high (body_code table) p) in
      simp (fits, statement)
      (rw (
        least_more (body_code table) p,
        passed,
        high,
        joined-more (λ q. body (decode table) q ∷ []) p,
        ← append_assoc (part_uses (decode table)) (bodies (decode table) p) (body (decode table) p ∷ []),
      )
      (passes few (body (decode table) p ∷ []) (λ e. more {n = body (decode table) p} (body-low table p fits) empty) so_far))

  least6 : (statement : Bool) → min (code 6 p) (failure 10 p statement) ≡ code 6 p
  least6 true = omega arith
  least6 false = omega arith

  pub body_swept : Next
  unfolding body_code body_best
  body_swept =
      ⊎_elim
      (λ (fits : procedure_fits table p ≡ true).
      ⊎_elim
      (λ (statement : is_statement (decode table) (body (decode table) p) ≡ true). body-passes fits statement)
      (λ (statement : is_statement (decode table) (body (decode table) p) ≡ false).
      body-fails (code 10 p) (simp (fits, statement) (omega arith)) (omega arith) (simp (fits, statement)))
      (bool_cases (is_statement (decode table) (body (decode table) p))))
      (λ (fits : procedure_fits table p ≡ false).
      body-fails (code 6 p) (simp fits (least6 (is_statement (decode table) (body (decode table) p)))) (omega arith) (simp fits))
      (bool_cases (procedure_fits table p))

-- before the first node, and before the first procedure
pub swept_none : (program : Program) → SweptTo program 0 none (replicate 8 0)
unfolding least_below joined repeated with_bits
swept_none program = clean refl (simp (le-ltb (nodes program) (nodes program) (omega arith))) refl

pub entered-none : (table : List ℕ) (best : ℕ) (marks : List ℕ) → AfterNodes (decode table) best marks → Entered table 0 best marks
unfolding least_below joined
entered-none table best marks swept =
    let high : min (least_below (node_code (decode table)) (nodes (decode table))) none ≡ least_below (node_code (decode table)) (nodes (decode table)) =
    omega (arith, least-high (node_code (decode table)) (nodes (decode table))) in
    rw (high, append-nil (part_uses (decode table))) swept

pub entered_all : (table : List ℕ) (best : ℕ) (marks : List ℕ) → Entered table (procedures (decode table)) best marks
    → AfterBodies table best marks
unfolding uses
entered_all table best marks swept = swept

-- the end

misused_both : (count a b : ℕ) → count ≤ 256 → min (misused count a) (misused count b) ≡ misused count (min b a)
misused_both count a b few =
    elim (dec_lt a count) [
      | yes l ↦
          let low : ltb (min b a) count ≡ true = lt-ltb (min b a) count (omega arith) in
          elim (dec_lt b count) [
            | yes m ↦ simp (lt-ltb a count l, lt-ltb b count m, low) (omega arith)
            | no m ↦ simp (lt-ltb a count l, le-ltb b count (omega arith), low) (omega arith)
          ]
      | no l ↦
          elim (dec_lt b count) [
            | yes m ↦
                let low : ltb (min b a) count ≡ true = lt-ltb (min b a) count (omega arith) in
                simp (le-ltb a count (omega arith), lt-ltb b count m, low) (omega arith)
            | no m ↦
                let high : ltb (min b a) count ≡ false = le-ltb (min b a) count (omega arith) in
                simp (le-ltb a count (omega arith), le-ltb b count (omega arith), high)
          ]
    ]

misused-high : (count place : ℕ) → count ≤ 256 → misused count place ≤ none
misused-high count place few =
    elim (dec_lt place count) [
      | yes l ↦ simp (lt-ltb place count l) (omega arith)
      | no m ↦ simp (le-ltb place count (omega arith)) (omega arith)
    ]

pub swept_high : {count early best : ℕ} {list marks : List ℕ} → count ≤ 256 → Swept count early list best marks → best ≤ none
swept_high few (failed e low) = omega arith
swept_high {count} {list = list} few (clean e is m) =
    omega (arith, is, misused-high count (repeated (replicate 8 0) count list) few)

misused-rank : (count : ℕ) (test : ℕ → Bool) → misused count (first_failing test count) ≡ rank (ask_each 11 count test)
misused-rank count test =
    let i = first_failing test count in
    ⊎_elim (λ (e : ltb i count ≡ true). simp e) (λ (e : ltb i count ≡ false). simp e) (bool_cases (ltb i count))

module _ (table : List ℕ) (header : Header) (sized : Sized table header) where
  abbrev few-nodes : nodes (decode table) ≤ 65536
  few-nodes = omega (arith, sized.nodes-high)

  abbrev few-procedures : procedures (decode table) ≤ 65536
  few-procedures = omega (arith, sized.procedures-high)

  abbrev six : ℕ
  six = least_below (codes 6 (procedure_fits table)) (procedures (decode table))

  abbrev seven : ℕ
  seven = least_below (codes 7 (kind_known (decode table))) (nodes (decode table))

  abbrev eight : ℕ
  eight = least_below (codes 8 (λ n. unnamed_zero (node_at (decode table) n))) (nodes (decode table))

  abbrev nine : ℕ
  nine = least_below (codes 9 (node_fits (decode table))) (nodes (decode table))

  abbrev ten : ℕ
  ten = least_below (codes 10 (λ p. is_statement (decode table) (body (decode table) p))) (procedures (decode table))

  abbrev eleven : ℕ
  eleven = least_below (codes 11 (used_once (decode table))) (nodes (decode table))

  -- the questions in their order
  in_order : Row (code 6 0) (filled_verdict table) (min six (min seven (min eight (min nine (min ten eleven)))))
  unfolding filled_verdict
  in_order =
      row_more 6 (omega arith) (procedure_fits table) (procedures (decode table)) few-procedures _ _
      (row_more 7 (omega arith) (kind_known (decode table)) (nodes (decode table)) few-nodes _ _
      (row_more 8 (omega arith) (λ n. unnamed_zero (node_at (decode table) n)) (nodes (decode table)) few-nodes _ _
      (row_more 9 (omega arith) (node_fits (decode table)) (nodes (decode table)) few-nodes _ _
      (row_more 10 (omega arith) (λ p. is_statement (decode table) (body (decode table) p)) (procedures (decode table)) few-procedures _ _
      (row_last 11 (omega arith) (used_once (decode table)) (nodes (decode table)) few-nodes)))))

  -- by node and by procedure
  by-node : least_below (node_code (decode table)) (nodes (decode table)) ≡ min seven (min eight nine)
  unfolding node_code
  by-node =
      let unnamed : ℕ → ℕ = codes 8 (λ n. unnamed_zero (node_at (decode table) n)) in
      let fits : ℕ → ℕ = codes 9 (node_fits (decode table)) in
      least_both (codes 7 (kind_known (decode table))) (λ n. min (unnamed n) (fits n)) (nodes (decode table))
      ∙ ap (λ (x : ℕ). min seven x) (least_both unnamed fits (nodes (decode table)))

  by-procedure : least_below (body_code table) (procedures (decode table)) ≡ min six ten
  unfolding body_code
  by-procedure = least_both (codes 6 (procedure_fits table)) (codes 10 (λ p. is_statement (decode table) (body (decode table) p))) (procedures (decode table))

  regrouped : (a b c d e f : ℕ) → min a (min b (min c (min d (min e f)))) ≡ min (min (min b (min c d)) (min a e)) f
  regrouped a b c d e f = simp (min_assoc, min_left_comm)

  -- the least refusal of all
  together : Row (code 6 0) (filled_verdict table) (min (earlier table) eleven)
  together =
      rw (by-node, by-procedure, ← regrouped six seven eight nine ten eleven) in_order

  late : code 11 0 ≤ eleven
  late = (row_last 11 (omega arith) (used_once (decode table)) (nodes (decode table)) few-nodes).above

  all_once : (best : ℕ) (marks : List ℕ) → best ≡ misused (nodes (decode table)) (repeated (replicate 8 0) (nodes (decode table)) (uses (decode table)))
      → marks ≡ with_bits (replicate 8 0) (uses (decode table))
      → min best (misused (nodes (decode table)) (first_failing (bit_at marks) (nodes (decode table)))) ≡ eleven
  unfolding used_once
  all_once best marks e m =
      rw (e, m)
      (misused_both (nodes (decode table)) _ _ sized.nodes-high
      ∙ ap (misused (nodes (decode table))) (once-first (uses (decode table)) (nodes (decode table)) sized.nodes-high)
      ∙ misused-rank (nodes (decode table)) (used_once (decode table))
      ∙ each-least 11 (omega arith) (used_once (decode table)) (nodes (decode table)) few-nodes)

  total : (best : ℕ) (marks : List ℕ) → AfterBodies table best marks
      → unused_best (nodes (decode table)) marks best ≡ min (earlier table) eleven
  unfolding unused_best
  total best marks (failed e low) = simp (lt-ltb best (code 11 0) (omega arith)) (omega (arith, late))
  total best marks (clean e is m) =
      let high : code 11 0 ≤ best =
      omega (arith, is, misused-low (nodes (decode table)) (repeated (replicate 8 0) (nodes (decode table)) (uses (decode table)))) in
      let whole : min (earlier table) eleven ≡ eleven =
      omega (arith, e, (row_last 11 (omega arith) (used_once (decode table)) (nodes (decode table)) few-nodes).high) in
      simp (le-ltb best (code 11 0) high) (all_once best marks is m ∙ sym whole)

  pub swept_verdict : (best : ℕ) (marks : List ℕ) → AfterBodies table best marks
      → (verdict_of (unused_best (nodes (decode table)) marks best) ≡ filled_verdict table) × (unused_best (nodes (decode table)) marks best ≤ none)
  swept_verdict best marks swept =
      let e = total best marks swept in
      (rw e together.back, rw e together.high)
