-- Which question refuses: 13 to 17 only what is well formed, and any other what is not.
use mathlib.Core.Bool.{Bool, true, false, not, ◌&&◌}
use mathlib.Core.List.{List}
use mathlib.Core.Logic.{⊎_elim}
use mathlib.Core.Path.{◌≡◌, refl, sym, ◌∙◌, ap}
use Prim.Native.Nat.{ℕ, ◌+◌, ◌-◌, ◌*◌, ◌%◌, ◌^◌}
use lib.Dec.{leb, ltb, eqb}
use lib.ListN.{length}
use Rattle.rules.specs.declared.Refusal.{Refusal}
use Rattle.std.specs.Prelude.{Ok, Err}
use Rattle.rules.specs.Answers.{Verdict, Accepted, ◌then◌, ask, ask_each}
use Rattle.rules.specs.Acceptance.{question_of, question17, judged_by, judged}
use Rattle.rules.specs.Choice.{first_failing}
use Rattle.rules.specs.Table.{Program, decode, word_at, variables, procedures, nodes, statement_at, Statement}
use Rattle.rules.specs.WellFormed.{most_table_bytes, header_fits, question2, question3, question4, question5, question6, question7, question8, question9}
use Rattle.rules.specs.WellFormed.{question10, question11, question12, question26, well_built, well_formed}
use borrow.Author.Tests.{not-true}
use Rattle.rules.proofs.AnswerLaws.{then_first, then_rest, then_accepted}
use Rattle.rules.proofs.ChoiceLaws.{bool_cases}
use Rattle.rules.proofs.FormerLaws.{still_accepted}
use Rattle.rules.proofs.VisibleLaws.{contrary}

-- a refusal, if it is one, by a question of which the test holds
data By (test : ℕ → Bool) : Verdict → Type 0 where
  passed : By test Accepted
  failed : {r : Refusal} → test r.number ≡ true → By test (Err r)

module _ {test : ℕ → Bool} where
  by_then : {v w : Verdict} → By test v → By test w → By test (v then w)
  by_then passed q = q
  by_then (failed e) q = failed e

  by-ask : (number : ℕ) (holds : Bool) → test number ≡ true → By test (ask number holds)
  by-ask number true e = passed
  by-ask number false e = failed e

  by-each : (number count : ℕ) (passes : ℕ → Bool) → test number ≡ true → By test (ask_each number count passes)
  by-each number count passes e =
      ⊎_elim
      (λ (h : ltb (first_failing passes count) count ≡ true). simp h (failed e))
      (λ (h : ltb (first_failing passes count) count ≡ false). simp h passed)
      (bool_cases (ltb (first_failing passes count) count))

-- 13 to 17
abbrev pub by_rules : ℕ → Bool
by_rules number = leb 13 number && leb number 17

abbrev others : ℕ → Bool
others number = not (by_rules number)

well_numbers : (table : List ℕ) → By others (well_formed table)
unfolding well_formed well_built
well_numbers table =
    let q2 : By others (question2 table) = by-ask 2 (eqb (length table % 4) 0 && leb 16 (length table) && leb (length table) most_table_bytes) refl in
    let q3 : By others (question3 table) = by-ask 3 (header_fits table) refl in
    let q4 : By others (question4 table) = by-ask 4 (eqb (length table) (4 * (2 + procedures (decode table) + nodes (decode table)))) refl in
    let q5 : By others (question5 table) = by-ask 5 (eqb (word_at table 1 % 2 ^ (32 - variables (decode table))) 0) refl in
    let q6 : By others (question6 table) = by-each 6 _ _ refl in
    let q7 : By others (question7 (decode table)) = by-each 7 _ _ refl in
    let q8 : By others (question8 (decode table)) = by-each 8 _ _ refl in
    let q9 : By others (question9 (decode table)) = by-each 9 _ _ refl in
    let q10 : By others (question10 (decode table)) = by-each 10 _ _ refl in
    let q11 : By others (question11 (decode table)) = by-each 11 _ _ refl in
    let q12 : By others (question12 (decode table)) = by-each 12 _ _ refl in
    let q26 : By others (question26 (decode table)) = by-each 26 _ _ refl in
    by_then
    (by_then q2
    (by_then q3
    (by_then q4
    (by_then q5 (by_then q6 (by_then q7 (by_then q8 (by_then q9 (by_then q10 (by_then q11 q12))))))))))
    q26

rule_numbers : (program : Program) (reading : ℕ → Statement) → By by_rules (judged_by program reading)
unfolding judged_by
rule_numbers program reading =
    let question : (k : ℕ) → by_rules k ≡ true → By by_rules (question_of program reading k) = λ k e. by-each k _ _ e in
    let q17 : By by_rules (question17 program reading) = by-each 17 _ _ refl in
    by_then (question 13 refl) (by_then (question 14 refl) (by_then (question 15 refl) (by_then (question 16 refl) q17)))

numbered : {r s : Refusal} → ◌≡◌ {A = Verdict} (Err r) (Err s) → r.number ≡ s.number
numbered {r} {s} e = cc

-- a refusal by 13 to 17 is of a table that is well formed
by-second : (v w : Verdict) (r : Refusal) → Err r ≡ (v then w) → By others v → by_rules r.number ≡ true
    → (v ≡ Accepted) × (Err r ≡ w)
by-second (Ok _) w r e by h = (refl, e)
by-second (Err s) w r e by h =
    let same : by_rules s.number ≡ true = ap by_rules (sym (numbered e)) ∙ h in
    absurd (contrary (by_rules s.number) same (refuted by))
  where
    refuted : By others (Err s) → by_rules s.number ≡ false
    refuted (failed e) = not-true (by_rules s.number) e

-- any other is of one that is not
by_first : (v w next : Verdict) (r : Refusal) → Err r ≡ (v then w) → By by_rules w → by_rules r.number ≡ false
    → Err r ≡ (v then next)
by_first (Ok _) w next r e by h = absurd (contrary (by_rules r.number) (refuted (rw (← e) at by)) h)
  where
    refuted : By by_rules (Err r) → by_rules r.number ≡ true
    refuted (failed e) = e
by_first (Err s) w next r e by h = e

module _ (table : List ℕ) (r : Refusal) (e : Err r ≡ (well_formed table then judged_by (decode table) (statement_at (decode table)))) where
  pub refused-judged : by_rules r.number ≡ true → (well_formed table ≡ Accepted) × (Err r ≡ judged_by (decode table) (statement_at (decode table)))
  refused-judged h = by-second (well_formed table) (judged_by (decode table) (statement_at (decode table))) r e (well_numbers table) h

  pub refused-formed : by_rules r.number ≡ false → Err r ≡ (well_formed table then judged (decode table))
  refused-formed h =
      by_first (well_formed table) (judged_by (decode table) (statement_at (decode table))) (judged (decode table)) r e (rule_numbers (decode table) (statement_at (decode table))) h

-- what is accepted where every node counts is accepted
pub whole-accepted : (table : List ℕ) → (well_formed table then judged_by (decode table) (statement_at (decode table))) ≡ Accepted
    → (well_formed table then judged (decode table)) ≡ Accepted
whole-accepted table e =
    let well = then_first (well_formed table) (judged_by (decode table) (statement_at (decode table))) e in
    then_accepted (well_formed table) (judged (decode table)) well
    (still_accepted table well (then_rest (well_formed table) (judged_by (decode table) (statement_at (decode table))) e))
