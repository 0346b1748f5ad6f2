-- The questions in the parts that the code asks them in.
use mathlib.Core.Bool.{Bool, true, false}
use mathlib.Core.List.{List}
use mathlib.Core.Logic.{◌⊎◌}
use mathlib.Core.Path.{◌≡◌, refl, ◌∙◌, sym}
use Prim.Native.Nat.{ℕ, ◌≤◌, ◌<◌, min}
use native.Mathlib.Omega.{arith}
use borrow.Author.Tests.{lt-ltb, le-ltb}
use Rattle.rules.specs.declared.Refusal.{Refusal}
use Rattle.std.specs.Prelude.{Err}
use Rattle.rules.specs.Answers.{Verdict, Accepted, refused, ◌then◌}
use Rattle.rules.specs.Acceptance.{body_flagged, judged_by}
use Rattle.rules.specs.Choice.{first_failing}
use Rattle.rules.specs.Table.{Program, decode, procedures, nodes, node_at, statement_at, Statement, nothing}
use Rattle.rules.specs.WellFormed.{unnamed_zero, called_below, leave_enclosed, well_built, well_formed, question26}
use Rattle.rules.specs.WellFormed.{question6, question7, question8, question9, question10, question11, question12}
use Rattle.rules.proofs.AnswerLaws.{then_first, then_rest, then_assoc, each-passed}
use Rattle.rules.proofs.ChoiceLaws.{first-none}
use Rattle.rules.proofs.Formed.{Formed}
use Rattle.table.specs.declared.Header.{Header}
use Rattle.table.specs.Header.{Passing}
use Rattle.table.specs.Sized.{Sized, shape_verdict}
use Rattle.table.specs.Uses.{Fitting}
use Rattle.table.proofs.FittingLaws.{fitting}
use Rattle.table.proofs.ShapeLaws.{sized}
use Rattle.table.proofs.PlaceLaws.{each-refused, each-accepted}
use Rattle.leaves.specs.Leaves.{left_code}
use Rattle.leaves.proofs.RuleLaws.{rule-whole}
use Rattle.visit.specs.Facts.{rule_code, guard_code, flag_code, FactsTo}
use Rattle.visit.specs.Least.{none, least_below, verdict_of}
use Rattle.visit.proofs.FactLaws.{fact-statement}
use Rattle.visit.proofs.LeastLaws.{least-same, least_both}
use Rattle.sweep.specs.Asked.{Filled, effect_code, calls_asked, asked}
use Rattle.sweep.specs.Swept.{filled_verdict, Uses}
use Rattle.sweep.proofs.JudgedLaws.{rule-high, judged-least}

-- 2 to 5, 6 to 11, and the rest
in_parts : (strictly : Bool) (table : List ℕ)
    → asked strictly table ≡ (shape_verdict table then (filled_verdict table then calls_asked strictly (decode table)))
unfolding asked calls_asked well_formed well_built shape_verdict filled_verdict
in_parts strictly table = simp then_assoc

module _ (strictly : Bool) (table : List ℕ) where
  pub misshapen : {r : Refusal} → shape_verdict table ≡ Err r → shape_verdict table ≡ asked strictly table
  misshapen e = rw (in_parts strictly table, e)

  pub shaped : shape_verdict table ≡ Accepted → (filled_verdict table then calls_asked strictly (decode table)) ≡ asked strictly table
  shaped e = rw (in_parts strictly table, e)

-- a table that passes 2 to 11
module _ {table : List ℕ} (filled : Filled table) where
  after7 : (question8 (decode table) then (question9 (decode table) then (question10 (decode table) then question11 (decode table)))) ≡ Accepted
  unfolding filled_verdict
  after7 = then_rest (question7 (decode table)) _ (then_rest (question6 table) _ filled.passed)

  after8 : (question9 (decode table) then (question10 (decode table) then question11 (decode table))) ≡ Accepted
  after8 = then_rest (question8 (decode table)) _ after7

  pub zero_fields : (n : ℕ) → n < nodes (decode table) → unnamed_zero (node_at (decode table) n) ≡ true
  zero_fields = each-passed 8 (nodes (decode table)) (λ n. unnamed_zero (node_at (decode table) n)) (then_first (question8 (decode table)) _ after7)

  pub fits : Fitting table
  unfolding filled_verdict
  fits =
      fitting table (sized table filled.shaped) (then_first (question6 table) _ filled.passed)
      (then_first (question9 (decode table)) _ after8)

  pub none_miscalled : question12 (decode table) ≡ Accepted
      → nodes (decode table) ≡ first_failing (λ n. called_below (decode table) n (statement_at (decode table) n)) (nodes (decode table))
  none_miscalled passed =
      let test : ℕ → Bool = λ n. called_below (decode table) n (statement_at (decode table) n) in
      sym (first-none test (nodes (decode table)) (each-passed 12 (nodes (decode table)) test passed))

-- 13 to 17 by a reading, from the plane of facts and the least refusal of 13 to 16, without and with a look at leaves
module _ {program : Program} (formed : Formed program) (reading : ℕ → Statement)
    (each : (k : ℕ) → (reading k ≡ statement_at program k) ⊎ (reading k ≡ nothing)) {facts : List ℕ}
    (kept : FactsTo program reading (nodes program) facts) where
  effect_flag_lem : (p : ℕ) → p < procedures program → effect_code program facts p ≡ flag_code program reading p
  unfolding effect_code flag_code body_flagged
  effect_flag_lem p l =
      rw (kept.known _ (formed.body_below p l), fact-statement program reading _ (formed.body-statement p l))

  rules-whole :
      min (least_below (guard_code program reading) (nodes program)) (least_below (left_code program reading) (nodes program))
      ≡ least_below (rule_code program reading) (nodes program)
  rules-whole =
      sym (least_both (guard_code program reading) (left_code program reading) (nodes program))
      ∙ least-same (λ n. min (guard_code program reading n) (left_code program reading n)) (rule_code program reading) _
      (λ n l.
      let few : n < 65536 = omega (arith, formed.nodes-high) in
      rule-whole program reading n few each (formed.statement-fits n) (rule-high program reading n few))

  pub judged-verdict : {guards rule least : ℕ} → guards ≡ least_below (guard_code program reading) (nodes program)
      → rule ≡ min guards (least_below (left_code program reading) (nodes program))
      → least ≡ min rule (least_below (effect_code program facts) (procedures program))
      → verdict_of least ≡ judged_by program reading
  judged-verdict of-guards of-leaves found =
      let flags = least-same (effect_code program facts) (flag_code program reading) (procedures program) effect_flag_lem in
      rw (found, of-leaves, of-guards, rules-whole, flags)
      (judged-least program reading (omega (arith, formed.nodes-high)) (omega (arith, formed.procedures-high))).0

-- a well-formed table passes 2 to 11
pub well-filled : {table : List ℕ} → Passing well_formed table → Filled table
unfolding asked
well-filled {table} read =
    let parts : (shape_verdict table then (filled_verdict table then calls_asked false (decode table))) ≡ Accepted =
    sym (in_parts false table) ∙ rw read.passed refl in
    let shaped = then_first (shape_verdict table) (filled_verdict table then calls_asked false (decode table)) parts in
    record {
      shaped = shaped;
      passed =
          then_first (filled_verdict table) (calls_asked false (decode table))
          (then_rest (shape_verdict table) (filled_verdict table then calls_asked false (decode table)) parts);
    }

-- a table that passes 2 to 12
pub well-built : {table : List ℕ} → Filled table → question12 (decode table) ≡ Accepted
    → well_built table ≡ Accepted
unfolding well_built shape_verdict filled_verdict
well-built {table} filled passed =
    let whole : well_built table ≡ (shape_verdict table then (filled_verdict table then question12 (decode table))) = simp then_assoc in
    whole ∙ simp (filled.shaped, filled.passed, passed)

-- 12, 26 and 13 to 17 from the first call that fails 12 and the first leave that fails 26
module _ {table : List ℕ} {header : Header} (sized : Sized table header) {call : ℕ}
    (found : call ≡ first_failing (λ n. called_below (decode table) n (statement_at (decode table) n)) (nodes (decode table))) (strictly : Bool) where
  pub refused12 : call < header.nodes → refused 12 call ≡ calls_asked strictly (decode table)
  unfolding calls_asked
  refused12 l =
      let inside : call < nodes (decode table) = omega (arith, sized.nodes-read) in
      simp (each-refused 12 (nodes (decode table)) (λ n. called_below (decode table) n (statement_at (decode table) n)) call found inside)

  pub accepted12 : header.nodes ≤ call → question12 (decode table) ≡ Accepted
  accepted12 l =
      let past : nodes (decode table) ≤ call = omega (arith, sized.nodes-read) in
      each-accepted 12 (nodes (decode table)) (λ n. called_below (decode table) n (statement_at (decode table) n)) call found past

  module _ (past : header.nodes ≤ call) {leave : ℕ} (loose : leave ≡ first_failing (leave_enclosed (decode table)) (nodes (decode table))) where
    pub refused26 : leave < header.nodes → refused 26 leave ≡ calls_asked strictly (decode table)
    unfolding calls_asked
    refused26 l =
        let inside : leave < nodes (decode table) = omega (arith, sized.nodes-read) in
        simp (accepted12 past, each-refused 26 (nodes (decode table)) (leave_enclosed (decode table)) leave loose inside)

    accepted26 : header.nodes ≤ leave → question26 (decode table) ≡ Accepted
    accepted26 l =
        let after : nodes (decode table) ≤ leave = omega (arith, sized.nodes-read) in
        each-accepted 26 (nodes (decode table)) (leave_enclosed (decode table)) leave loose after

    pub unjudged : header.nodes ≤ leave → strictly ≡ false → Accepted ≡ calls_asked strictly (decode table)
    unfolding calls_asked
    unjudged l e = simp (accepted12 past, accepted26 l, e)

    pub judged-next : header.nodes ≤ leave → strictly ≡ true → judged_by (decode table) (statement_at (decode table)) ≡ calls_asked strictly (decode table)
    unfolding calls_asked
    judged-next l e = simp (accepted12 past, accepted26 l, e)

-- 6 to 11 from the least refusal
module _ {table : List ℕ} {first best : ℕ} (uses : Uses table first best) where
  pub fails : best < none → (next : Verdict) → verdict_of best ≡ (filled_verdict table then next)
  fails l next = simp (← uses.verdict, lt-ltb best none l)

  pub passes : none ≤ best → filled_verdict table ≡ Accepted
  passes l = sym uses.verdict ∙ simp (le-ltb best none l)

  pub passes-first : none ≤ best → first ≤ none → first ≡ none
  passes-first l high = omega (arith, uses.lower)

  pub passes_on : none ≤ best → (next : Verdict) → next ≡ (filled_verdict table then next)
  passes_on l next = simp (passes l)
