-- Question 12 of all procedures: the lowest of their first failing calls is the first call that fails.
use mathlib.Core.Bool.{Bool, true, false, not, ◌&&◌, ◌||◌, or-true}
use mathlib.Core.Logic.{⊎_elim}
use mathlib.Core.Path.{◌≡◌, refl, sym, ◌∙◌, ap, fun_ext}
use Prim.Native.Nat.{ℕ, ◌+◌, ◌<◌, min}
use native.Mathlib.Omega.{arith}
use borrow.Author.Count.{below_more}
use borrow.Author.Tests.{eqb-false}
use Rattle.rules.specs.Choice.{first_failing, all_below}
use Rattle.rules.specs.Table.{Program, procedures, nodes, body, statement_at}
use Rattle.rules.specs.Table.{Statement, nothing, assign, sequence, branch, loop, call, latch, collective, leave}
use Rattle.rules.specs.WellFormed.{in_tree, called_below}
use Rattle.rules.proofs.ChoiceLaws.{bool_cases, first-none, first_le, first-fails, all_true, all-false, all-at}
use Rattle.calls.specs.Walk.{calls_below, own_calls}
use Rattle.table.proofs.OnceLaws.{first_both}

all_more : (test : ℕ → Bool) (n : ℕ) → all_below test (n + 1) ≡ (all_below test n && test n)
unfolding all_below
all_more test n =
    ⊎_elim
    (λ (e : all_below test n ≡ true).
    ⊎_elim
    (λ (t : test n ≡ true). all_true test (n + 1) (below_more (λ k. test k ≡ true) n (all-at test n e) t)
    ∙ sym (simp (e, t)))
    (λ (t : test n ≡ false). all-false test (n + 1) n (omega arith) t ∙ sym (simp (e, t)))
    (bool_cases (test n)))
    (λ (e : all_below test n ≡ false).
    let i = first_failing test n in
    let inside : i < n = omega (arith, eqb-false i n e, first_le test n) in
    all-false test (n + 1) i (omega arith) (first-fails test n inside) ∙ sym (simp e))
    (bool_cases (all_below test n))

module _ (program : Program) where
  -- a statement that is no call passes
  no_call : (n : ℕ) → true ≡ all_below (λ p. not (in_tree program n (body program p)) || true) (procedures program)
  no_call n = sym (all_true _ (procedures program) (λ p l. or-true (not (in_tree program n (body program p)))))

  by-statement : (n : ℕ) (s : Statement)
      → called_below program n s ≡ all_below (λ p. not (in_tree program n (body program p)) || calls_below p s) (procedures program)
  unfolding called_below calls_below
  by-statement n nothing = no_call n
  by-statement n (assign a b) = no_call n
  by-statement n (sequence a b) = no_call n
  by-statement n (branch a b c) = no_call n
  by-statement n (loop a b) = no_call n
  by-statement n (call q) = refl
  by-statement n (latch a b) = no_call n
  by-statement n (collective k) = no_call n
  by-statement n leave = no_call n

  pub call_law : (n : ℕ) → called_below program n (statement_at program n) ≡ all_below (λ p. own_calls program p n) (procedures program)
  unfolding own_calls
  call_law n = by-statement n (statement_at program n)

  -- question 12 as far as the procedures below p go
  abbrev pub calls_of : ℕ → ℕ → Bool
  calls_of p n = all_below (λ q. own_calls program q n) p

  pub calls-none : first_failing (calls_of 0) (nodes program) ≡ nodes program
  calls-none = first-none (calls_of 0) (nodes program) (λ k l. all_true (λ q. own_calls program q k) 0 (λ q m. absurd (omega arith)))

  pub calls-more : (p : ℕ) → first_failing (calls_of (p + 1)) (nodes program)
      ≡ min (first_failing (calls_of p) (nodes program)) (first_failing (own_calls program p) (nodes program))
  calls-more p =
      first_both (calls_of p) (own_calls program p) (calls_of (p + 1)) (nodes program) (λ k l. all_more (λ q. own_calls program q k) p)

  pub calls-all : first_failing (calls_of (procedures program)) (nodes program)
      ≡ first_failing (λ n. called_below program n (statement_at program n)) (nodes program)
  calls-all = ap (λ (test : ℕ → Bool). first_failing test (nodes program)) (fun_ext (λ n. sym (call_law n)))
