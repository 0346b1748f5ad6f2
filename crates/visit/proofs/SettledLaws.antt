-- What `settled` keeps and answers: the fact of a node and the refusal by its rule, by the node's kind.
use mathlib.Core.Bool.{Bool, true, false, cond, not, ◌&&◌, ◌||◌}
use mathlib.Core.List.{List}
use mathlib.Core.Logic.{◌⊎◌, ⊎_elim}
use mathlib.Core.Path.{◌≡◌, refl, sym, ◌∙◌, ap}
use Prim.Native.Nat.{ℕ, ◌+◌, ◌%◌, ◌<◌}
use native.Mathlib.Omega.{arith}
use lib.Dec.{leb, ltb, eqb}
use lib.ListN.{length}
use borrow.Author.Tests.{leb-true, ltb-true, eqb-false, not-true, not-false}
use borrow.Rule.Slice.PartMut.{put_mid}
use Rattle.rules.specs.declared.Node.{Node}
use Rattle.rules.specs.Table.{Program, decode, variables, nodes, flagged, node_at, Statement}
use Rattle.rules.specs.WellFormed.{is_expression, is_statement, expression_part, statement_part, node_fits}
use Rattle.rules.proofs.AnswerLaws.{both_left, both_right}
use Rattle.rules.proofs.ChoiceLaws.{bool_cases}
use Rattle.table.specs.declared.Header.{Header}
use Rattle.table.specs.declared.fields.Role.{Role}
use Rattle.table.specs.declared.fields.Role.TheVariants.{Variable, Expression, Statement as StatementRole}
use Rattle.table.specs.Marks.{bit_at, with_bit}
use Rattle.table.specs.Roles.{roles, roles_of, field_fits}
use Rattle.table.specs.Sized.{Sized}
use Rattle.table.proofs.BitLaws.{length-with_bit}
use Rattle.table.proofs.FittingLaws.{fields_fit}
use Rattle.table.proofs.TestLaws.{never}
use Rattle.visit.specs.declared.Visit.{Visit}
use Rattle.visit.specs.declared.facts.Source.{Source}
use Rattle.visit.specs.declared.facts.Source.TheVariants.{Never, Always, Unflagged, Flagged, Called, OfA, OfB, OfAOrB, OfBOrC}
use Rattle.visit.specs.Facts.{Reading, fact, guard_code, FactsTo, sourced, ruled, Settled}
use Rattle.visit.specs.Fields.{facts_plane, all_planes}
use Rattle.visit.specs.Least.{none, code}
use Rattle.visit.proofs.FactLaws.{once, fact_as, fact_1, fact_5, fact-operation, fact_17, fact_18, fact_19, fact_20}
use Rattle.visit.proofs.FactLaws.{fact_24, plane_more, rule-none, rule_17, rule_19, rule_20, rule_24}
use Rattle.visit.proofs.LeastLaws.{passed, failed}
use Rattle.visit.proofs.PlaneLaws.{facts-length, used_put_facts, facts_put_facts, leaves_put_facts, length_put_facts}

-- the answers of `settled`
module _ (program : Program) (v : Visit) (m : Node) (used : Bool) (source : Source) (question guard : ℕ) (before : List ℕ)
    (size : length before ≡ all_planes) where
  abbrev found : Bool
  found = sourced program (facts_plane before) m source

  pub settled-stuck : not used ≡ true → Settled program v m used source question guard before before 0
  settled-stuck u =
      let e = not-true used u in
      record { answer = simp e; marks = refl; leaves = refl; facts = simp e; same = λ _. refl; size = size }

  -- t is what `fact_from` answered
  module _ {t : Bool} (u : not used ≡ false) (from : t ≡ found) where
    pub settled_still : not t ≡ true → Settled program v m used source question guard before before none
    settled_still h =
        let e = not-false used u in
        let f = failed from h in
        record { answer = simp (e, f); marks = refl; leaves = refl; facts = simp (e, f); same = λ _. refl; size = size }

    pub settled-marked : not t ≡ false → (words : List ℕ) (r : ℕ) → words ≡ with_bit (facts_plane before) v.node
        → r ≡ ruled (bit_at (facts_plane before) (guard % 256)) question v.node
        → Settled program v m used source question guard before (put_mid 8 8 before words) r
    settled-marked h words r made q =
        let e = not-false used u in
        let f = passed from h in
        let many : length words ≡ 8 = ap length made ∙ length-with_bit (facts_plane before) v.node ∙ facts-length before size in
        record {
          answer = simp (e, f) q;
          marks = used_put_facts before size words many;
          leaves = leaves_put_facts before size words many;
          facts = facts_put_facts before size words many ∙ simp (e, f) made;
          same = λ unused. never (sym e ∙ unused);
          size = length_put_facts before size words many;
        }

-- a source gives the fact of node n, and a question with its guard the refusal by the node's rule
pub record Judges (program : Program) (reading : ℕ → Statement) (n : ℕ) (facts : List ℕ) (source : Source) (question guard : ℕ) : Type 0 where
  pub fact-is : sourced program facts (node_at program n) source ≡ fact program reading n
  pub rule-is : cond (fact program reading n) (ruled (bit_at facts (guard % 256)) question n) none ≡ guard_code program reading n

either_way : (b : Bool) (r : ℕ) → cond b r r ≡ r
either_way true r = refl
either_way false r = refl

-- the kinds whose nodes are put to a question of 13 to 16
asked : ℕ → Bool
asked k = eqb k 17 || (eqb k 19 || (eqb k 20 || eqb k 24))

module _ (table : List ℕ) (n : ℕ) (header : Header) (facts : List ℕ) (sized : Sized table header) (low : n < nodes (decode table))
    (fits : node_fits (decode table) n ≡ true) (reading : Reading (decode table) n (n + 1)) (known : FactsTo (decode table) reading.counts n facts) where
  abbrev counts : ℕ → Statement
  counts = reading.counts

  abbrev kind : ℕ
  kind = (node_at (decode table) n).kind

  abbrev a : ℕ
  a = (node_at (decode table) n).a

  abbrev b : ℕ
  b = (node_at (decode table) n).b

  abbrev c : ℕ
  c = (node_at (decode table) n).c

  -- the fields by their roles

  abbrev Fits : Role → ℕ → Type 0
  Fits role value = field_fits (decode table) n role value ≡ true

  a-fits : (k : ℕ) → kind ≡ k → Fits (roles_of k).a a
  a-fits k e = rw e at (fields_fit (decode table) n fits).0

  b-fits : (k : ℕ) → kind ≡ k → Fits (roles_of k).b b
  b-fits k e = rw e at (fields_fit (decode table) n fits).1

  c-fits : (k : ℕ) → kind ≡ k → Fits (roles_of k).c c
  c-fits k e = rw e at (fields_fit (decode table) n fits).2

  same-variable : (v : ℕ) → Fits Variable v → v % 32 ≡ v
  unfolding field_fits
  same-variable v f = omega (arith, ltb-true v (variables (decode table)) f, sized.variables-high)

  -- a part is judged, and its bit is its fact
  record Part (sort : Bool) (v : ℕ) : Type 0 where
    below : v < n
    sorted : sort ≡ true
    bit : bit_at facts (v % 256) ≡ fact (decode table) counts v

  part : (sort : Bool) (v : ℕ) → (ltb v n && sort) ≡ true → Part sort v
  part sort v f =
      let l = ltb-true v n (both_left (ltb v n) sort f) in
      let same : v % 256 ≡ v = omega (arith, l, low, sized.nodes-high) in
      record { below = l; sorted = both_right (ltb v n) sort f; bit = rw same (known.known v l) }

  expression : (v : ℕ) → Fits Expression v → Part (is_expression (decode table) v) v
  unfolding field_fits expression_part
  expression v f = part (is_expression (decode table) v) v f

  statement : (v : ℕ) → Fits StatementRole v → Part (is_statement (decode table) v) v
  unfolding field_fits statement_part
  statement v f = part (is_statement (decode table) v) v f

  -- a node with no rule, and one whose rule fails where it has an effect and its guard is not single

  quiet : (k : ℕ) → kind ≡ k → asked k ≡ false → guard_code (decode table) counts n ≡ none
  unfolding asked
  quiet k e f =
      let other : (i : ℕ) → asked i ≡ true → kind ≡ i → ⊥ = λ i t h. never (sym t ∙ ap asked (sym h ∙ e) ∙ f) in
      rule-none (decode table) n reading (other 17 refl) (other 19 refl) (other 20 refl) (other 24 refl)

  plain : (source : Source) (guard : ℕ) → guard_code (decode table) counts n ≡ none → sourced (decode table) facts (node_at (decode table) n) source ≡ fact (decode table) counts n
      → Judges (decode table) counts n facts source 0 guard
  unfolding ruled
  plain source guard r f = record { fact-is = f; rule-is = rw r (either_way (fact (decode table) counts n) none) }

  guarded : (source : Source) (question guard : ℕ) {sort : Bool} → eqb question 0 ≡ false → Part sort guard
      → sourced (decode table) facts (node_at (decode table) n) source ≡ fact (decode table) counts n
      → guard_code (decode table) counts n ≡ cond (fact (decode table) counts n) (cond (fact (decode table) counts guard) (code question n) none) none
      → Judges (decode table) counts n facts source question guard
  unfolding ruled
  guarded source question guard q p f r = record { fact-is = f; rule-is = simp (q, p.bit, r) }

  -- by kind

  pub judges_0 : kind ≡ 0 → Judges (decode table) counts n facts Never 0 a
  unfolding sourced asked once
  judges_0 e = plain Never a (quiet 0 e refl) (sym (fact_as (decode table) n reading 0 e))

  pub judges_1 : kind ≡ 1 → Judges (decode table) counts n facts Unflagged 0 a
  unfolding sourced asked roles_of roles
  judges_1 e =
      plain Unflagged a (quiet 1 e refl) (ap (λ v. not (flagged (decode table) v)) (same-variable a (a-fits 1 e)) ∙ sym (fact_1 (decode table) n reading e))

  pub judges_2 : (kind ≡ 2) ⊎ (kind ≡ 23) → Judges (decode table) counts n facts Always 0 a
  unfolding sourced asked once
  judges_2 =
      ⊎_elim (λ (e : kind ≡ 2). plain Always a (quiet 2 e refl) (sym (fact_as (decode table) n reading 2 e)))
      (λ (e : kind ≡ 23). plain Always a (quiet 23 e refl) (sym (fact_as (decode table) n reading 23 e)))

  pub judges_3 : (kind ≡ 3) ⊎ (kind ≡ 16) → Judges (decode table) counts n facts Never 0 a
  unfolding sourced asked once
  judges_3 =
      ⊎_elim (λ (e : kind ≡ 3). plain Never a (quiet 3 e refl) (sym (fact_as (decode table) n reading 3 e)))
      (λ (e : kind ≡ 16). plain Never a (quiet 16 e refl) (sym (fact_as (decode table) n reading 16 e)))

  pub judges_4 : kind ≡ 4 → Judges (decode table) counts n facts Always 0 a
  unfolding sourced asked once
  judges_4 e = plain Always a (quiet 4 e refl) (sym (fact_as (decode table) n reading 4 e))

  pub judges_5 : kind ≡ 5 → Judges (decode table) counts n facts OfA 0 a
  unfolding sourced asked roles_of roles
  judges_5 e =
      let p = expression a (a-fits 5 e) in
      plain OfA a (quiet 5 e refl) (p.bit ∙ sym (fact_5 (decode table) n reading e p.below p.sorted))

  operation : (k : ℕ) → kind ≡ k → (leb 6 k && leb k 12) ≡ true → (roles_of k).a ≡ Expression → (roles_of k).b ≡ Expression
      → Judges (decode table) counts n facts OfAOrB 0 a
  unfolding sourced
  operation k e h x y =
      let from = leb-true 6 k (both_left (leb 6 k) (leb k 12) h) in
      let to = leb-true k 12 (both_right (leb 6 k) (leb k 12) h) in
      let p = expression a (rw x at (a-fits k e)) in
      let q = expression b (rw y at (b-fits k e)) in
      let here = fact-operation (decode table) n reading (omega arith) (omega arith) p.below q.below p.sorted q.sorted in
      plain OfAOrB a (rule-none (decode table) n reading (omega arith) (omega arith) (omega arith) (omega arith)) (rw (p.bit, q.bit, here))

  pub judges_6 : (kind ≡ 6)
      ⊎ ((kind ≡ 7) ⊎ ((kind ≡ 8) ⊎ ((kind ≡ 9) ⊎ ((kind ≡ 10) ⊎ ((kind ≡ 11) ⊎ (kind ≡ 12))))))
      → Judges (decode table) counts n facts OfAOrB 0 a
  unfolding roles_of roles
  judges_6 =
      ⊎_elim (λ (e : kind ≡ 6). operation 6 e refl refl refl)
      (⊎_elim (λ (e : kind ≡ 7). operation 7 e refl refl refl)
      (⊎_elim (λ (e : kind ≡ 8). operation 8 e refl refl refl)
      (⊎_elim (λ (e : kind ≡ 9). operation 9 e refl refl refl)
      (⊎_elim (λ (e : kind ≡ 10). operation 10 e refl refl refl)
      (⊎_elim (λ (e : kind ≡ 11). operation 11 e refl refl refl) (λ (e : kind ≡ 12). operation 12 e refl refl refl))))))

  pub judges_17 : kind ≡ 17 → Judges (decode table) counts n facts Flagged 13 b
  unfolding sourced roles_of roles
  judges_17 e =
      let p = expression b (b-fits 17 e) in
      guarded Flagged 13 b refl p (ap (flagged (decode table)) (same-variable a (a-fits 17 e)) ∙ sym (fact_17 (decode table) n reading e))
      (rw (fact_17 (decode table) n reading e) (rule_17 (decode table) n reading e p.sorted))

  pub judges_18 : kind ≡ 18 → Judges (decode table) counts n facts OfAOrB 0 a
  unfolding sourced asked roles_of roles
  judges_18 e =
      let p = statement a (a-fits 18 e) in
      let q = statement b (b-fits 18 e) in
      plain OfAOrB a (quiet 18 e refl)
      (rw (p.bit, q.bit, fact_18 (decode table) n reading e p.below q.below p.sorted q.sorted))

  pub judges_19 : kind ≡ 19 → Judges (decode table) counts n facts OfBOrC 15 a
  unfolding sourced roles_of roles
  judges_19 e =
      let p = expression a (a-fits 19 e) in
      let q = statement b (b-fits 19 e) in
      let r = statement c (c-fits 19 e) in
      let here = fact_19 (decode table) n reading e q.below r.below q.sorted r.sorted in
      guarded OfBOrC 15 a refl p (rw (q.bit, r.bit, here)) (rw here (rule_19 (decode table) n reading e p.sorted q.sorted r.sorted))

  pub judges_20 : kind ≡ 20 → Judges (decode table) counts n facts OfB 16 a
  unfolding sourced roles_of roles
  judges_20 e =
      let p = expression a (a-fits 20 e) in
      let q = statement b (b-fits 20 e) in
      let here = fact_20 (decode table) n reading e q.below q.sorted in
      guarded OfB 16 a refl p (rw (q.bit, here)) (rule_20 (decode table) n reading e p.sorted)

  pub judges_21 : kind ≡ 21 → Judges (decode table) counts n facts Called 0 a
  unfolding sourced asked once
  judges_21 e = plain Called a (quiet 21 e refl) (sym (fact_as (decode table) n reading 21 e))

  pub judges_22 : kind ≡ 22 → Judges (decode table) counts n facts Never 0 a
  unfolding sourced asked once
  judges_22 e = plain Never a (quiet 22 e refl) (sym (fact_as (decode table) n reading 22 e))

  pub judges_24 : kind ≡ 24 → Judges (decode table) counts n facts Always 14 c
  unfolding sourced roles_of roles
  judges_24 e =
      let p = expression c (c-fits 24 e) in
      guarded Always 14 c refl p (sym (fact_24 (decode table) n reading e)) (rw (fact_24 (decode table) n reading e) (rule_24 (decode table) n reading e p.sorted))

  pub judges_25 : kind ≡ 25 → Judges (decode table) counts n facts Always 0 a
  unfolding sourced asked once
  judges_25 e = plain Always a (quiet 25 e refl) (sym (fact_as (decode table) n reading 25 e))

  pub judges_26 : kind ≡ 26 → Judges (decode table) counts n facts Never 0 a
  unfolding sourced asked once
  judges_26 e = plain Never a (quiet 26 e refl) (sym (fact_as (decode table) n reading 26 e))

-- what `settled` answers and keeps, in these terms

some-rule : (local : Bool) (question n : ℕ) → ruled local question n ≡ 0 → ⊥
unfolding ruled
some-rule local question n =
    ⊎_elim (λ (z : eqb question 0 ≡ true). simp z (λ e. omega arith))
    (λ (z : eqb question 0 ≡ false).
    let some = eqb-false question 0 z in
    ⊎_elim (λ (l : local ≡ true). simp (z, l) (λ e. omega arith)) (λ (l : local ≡ false). simp (z, l) (λ e. omega arith))
    (bool_cases local))
    (bool_cases (eqb question 0))

module _ (program : Program) (v : Visit) (m : Node) (used : Bool) (source : Source) (question guard : ℕ) (before after : List ℕ) (r : ℕ)
    (s : Settled program v m used source question guard before after r) where
  pub settled-used : (r ≡ 0 → ⊥) → used ≡ true
  settled-used h =
      ⊎_elim (λ (e : used ≡ true). e) (λ (e : used ≡ false). absurd (h (s.answer ∙ simp e))) (bool_cases used)

  pub settled-unused : r ≡ 0 → used ≡ false
  settled-unused h =
      ⊎_elim
      (λ (e : used ≡ true).
      ⊎_elim
      (λ (f : sourced program (facts_plane before) m source ≡ true).
      absurd (some-rule (bit_at (facts_plane before) (guard % 256)) question v.node (simp (e, f) at (sym s.answer ∙ h))))
      (λ (f : sourced program (facts_plane before) m source ≡ false).
      let z : none ≡ 0 = simp (e, f) at (sym s.answer ∙ h) in absurd (omega arith))
      (bool_cases (sourced program (facts_plane before) m source)))
      (λ (e : used ≡ false). e)
      (bool_cases used)

  pub settled-judged : m ≡ node_at program v.node → used ≡ true → v.node < 256
      → (reading : ℕ → Statement) → FactsTo program reading v.node (facts_plane before)
      → Judges program reading v.node (facts_plane before) source question guard
      → FactsTo program reading (v.node + 1) (facts_plane after) × (r ≡ guard_code program reading v.node)
  settled-judged here e l reading known judges =
      let found : sourced program (facts_plane before) m source ≡ fact program reading v.node = rw here judges.fact-is in (
        plane_more (fact program reading) v.node (facts_plane before) (facts_plane after) l known (s.facts ∙ simp (e, found)),
        s.answer ∙ simp (e, found) judges.rule-is,
      )
