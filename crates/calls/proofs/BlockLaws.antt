-- Question 12 of procedures whose bodies stand in their order: a procedure's tree lies up to its body, where no call names the procedure
-- or a later one.
use mathlib.Core.Bool.{true, false, or-true}
use mathlib.Core.Logic.{⊎_elim}
use mathlib.Core.Path.{◌≡◌, refl, ◌∙◌}
use Prim.Native.Nat.{ℕ, ◌≤◌, ◌<◌}
use native.Mathlib.Decide.{dec_lt}
use native.Mathlib.Omega.{arith}
use borrow.Author.Tests.{lt-ltb}
use Rattle.rules.specs.Answers.{Accepted}
use Rattle.rules.specs.Table.{Program, procedures, nodes, body, statement_at}
use Rattle.rules.specs.Table.{Statement, nothing, assign, sequence, branch, loop, call, latch, collective, leave}
use Rattle.rules.specs.WellFormed.{in_tree, called_below, question12}
use Rattle.rules.proofs.AnswerLaws.{each-accepted}
use Rattle.rules.proofs.ChoiceLaws.{bool_cases, all_true}
use Rattle.rules.proofs.PartLaws.{tree_low}
use Rattle.table.specs.Uses.{CallsBelow}
use Rattle.calls.specs.Blocks.{Blocks, none, more}
use Rattle.calls.specs.Walk.{calls_below, own_calls}
use Rattle.calls.proofs.CallLaws.{call_law}

-- what stands below node n calls below procedure p
blocks-below : (program : Program) {n p : ℕ} → Blocks program n p → (k : ℕ) → k < n → CallsBelow program k p
blocks-below program none k l q s = absurd (omega arith)
blocks-below program (more n p earlier low block) k l q s =
    elim (dec_lt k n) [
      | yes under ↦ omega (arith, blocks-below program earlier k under q s)
      | no here ↦ omega (arith, block k (omega arith) l q s)
    ]

-- and so does what stands up to the body of an earlier procedure, below that one
body_below : (program : Program) {n p : ℕ} → Blocks program n p → (r : ℕ) → r < p → (k : ℕ) → k ≤ body program r → CallsBelow program k r
body_below program none r l k high = absurd (omega arith)
body_below program (more n p earlier low block) r l k high =
    elim (dec_lt r p) [
      | yes under ↦ body_below program earlier r under k high
      | no here ↦
          let same : r ≡ p = omega arith in
          rw same
          (elim (dec_lt k n) [
            | yes earlier-block ↦ blocks-below program earlier k earlier-block
            | no inside ↦ block k (omega arith) (let at : k ≤ body program p = rw same at high in omega arith)
          ])
    ]

calls_so : (p : ℕ) (s : Statement) → ((q : ℕ) → s ≡ call q → q < p) → calls_below p s ≡ true
unfolding calls_below
calls_so p nothing h = refl
calls_so p (assign a b) h = refl
calls_so p (sequence a b) h = refl
calls_so p (branch a b c) h = refl
calls_so p (loop a b) h = refl
calls_so p (call q) h = lt-ltb q p (h q refl)
calls_so p (latch a b) h = refl
calls_so p (collective k) h = refl
calls_so p leave h = refl

own : (program : Program) {n p : ℕ} → Blocks program n p → (r k : ℕ) → r < p → own_calls program r k ≡ true
unfolding own_calls
own program blocks r k l =
    ⊎_elim
    (λ (h : in_tree program k (body program r) ≡ true).
    let low = tree_low program k (body program r) h in
    simp (calls_so r (statement_at program k) (body_below program blocks r l k low), or-true))
    (λ (h : in_tree program k (body program r) ≡ false). simp h)
    (bool_cases (in_tree program k (body program r)))

pub blocks-called : (program : Program) (n : ℕ) → Blocks program n (procedures program) → question12 program ≡ Accepted
blocks-called program n blocks =
    each-accepted 12 (nodes program) (λ k. called_below program k (statement_at program k))
    (λ k l.
    call_law program k
    ∙ all_true (λ q. own_calls program q k) (procedures program) (λ q m. own program blocks q k m))
