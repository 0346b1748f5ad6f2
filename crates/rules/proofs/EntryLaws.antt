-- What is true of every entry of a stack, after each of the stack's moves; and that a step leaves only statements on it.
use mathlib.Core.Bool.{Bool, true, false, cond, not}
use mathlib.Core.List.{List}
use mathlib.Core.Logic.{⊎_elim}
use mathlib.Core.Path.{◌≡◌, refl, ◌∙◌}
use Prim.Native.Nat.{ℕ, zero, suc, ◌+◌, ◌-◌, ◌≤◌, ◌<◌}
use native.Mathlib.Decide.{dec_lt}
use native.Mathlib.Omega.{arith}
use lib.Dec.{ltb, eqb}
use lib.ListN.{length, set, length-set}
use borrow.Author.Tests.{ltb-true, le-leb}
use Rattle.rules.specs.Evaluation.{Environment, value}
use Rattle.rules.specs.Process.{latch_places, latches_at, depth_at, stack_places, process_words, process_at}
use Rattle.rules.specs.Process.{depth, top, popped, replaced, pushed, unwound, advanced, needs_place}
use Rattle.rules.specs.Step.{stack_fits, record_fits, process_fits}
use Rattle.rules.specs.Table.{Program, body, statement_at}
use Rattle.rules.specs.Table.{Statement, nothing, assign, sequence, branch, loop, call, latch, collective, leave}
use Rattle.rules.specs.WellFormed.{is_statement, nearest_loop}
use Rattle.rules.proofs.AnswerLaws.{both_true}
use Rattle.rules.proofs.ChoiceLaws.{bool_cases, all_true}
use Rattle.rules.proofs.Formed.{Formed}
use Rattle.rules.proofs.HomeLaws.{sequence-statements, branch-statements, loop-statement, call_below, assign-low}
use Rattle.rules.proofs.StackLaws.{entry, popped-length, replaced-length, latched_length, set-depth, set-entry}
use Rattle.rules.proofs.StackLaws.{popped-depth, popped-entry, replaced-depth, replaced-entry, replaced-top}
use Rattle.rules.proofs.StackLaws.{pushed-depth, pushed-entry, pushed-top}

-- each entry is such at its height, and there are no more than fit
pub record Each (P : ℕ → ℕ → Type 0) (words : List ℕ) : Type 0 where
  pub depth-high : depth words ≤ stack_places
  pub entries : (i : ℕ) → i < depth words → P (entry words i) i

pub each-kept : (P : ℕ → ℕ → Type 0) (words others : List ℕ) → depth others ≡ depth words
    → ((i : ℕ) → entry others i ≡ entry words i) → Each P words → Each P others
each-kept P words others e same all =
    record { depth-high = rw e all.depth-high; entries = λ i l. rw (same i) (all.entries i (omega arith)) }

module _ (P : ℕ → ℕ → Type 0) (words : List ℕ) (sized : length words ≡ process_words) (all : Each P words) where
  pub each-popped : Each P (popped words)
  each-popped =
      let e = popped-depth words sized in
      let high = all.depth-high in
      record {
        depth-high = omega arith;
        entries = λ i l. rw (popped-entry words sized i (omega arith)) (all.entries i (omega arith));
      }

  pub each-replaced : (n : ℕ) → 0 < depth words → P n (depth words - 1) → Each P (replaced words n)
  each-replaced n h new =
      let e = replaced-depth words sized n h in
      let high = all.depth-high in
      record {
        depth-high = omega arith;
        entries = λ i l.
            elim (dec_lt i (depth words - 1)) [
              | yes m ↦ rw (replaced-entry words sized n i m) (all.entries i (omega arith))
              | no m ↦
                  let here : i ≡ depth words - 1 = omega arith in
                  rw (here, replaced-top words sized n h high) new
            ];
      }

  pub each_pushed : (n : ℕ) → depth words < stack_places → P n (depth words) → Each P (pushed words n)
  each_pushed n h new =
      let e = pushed-depth words sized n in
      record {
        depth-high = omega arith;
        entries = λ i l.
            elim (dec_lt i (depth words)) [
              | yes m ↦ rw (pushed-entry words sized n i m) (all.entries i m)
              | no m ↦
                  let here : i ≡ depth words = omega arith in
                  rw (here, pushed-top words sized n h) new
            ];
      }

-- what goes by depth and entries, and what a pop keeps, is kept by a store below the depth and by a leave
module _ (Q : List ℕ → Type 0)
    (kept : (words others : List ℕ) → depth others ≡ depth words → ((i : ℕ) → entry others i ≡ entry words i) → Q words → Q others)
    (pops : (words : List ℕ) → length words ≡ process_words → Q words → Q (popped words)) where
  pub set_keeps : (words : List ℕ) (a v : ℕ) → a < depth_at → Q words → Q (set words a v)
  set_keeps words a v h q = kept words (set words a v) (set-depth words a v h) (λ i. set-entry words a v i h) q

  pub latch_keeps : (words : List ℕ) (x v : ℕ) → Q words → Q (cond (ltb x latch_places) (set words (latches_at + x) v) words)
  latch_keeps words x v q =
      ⊎_elim
      (λ (e : ltb x latch_places ≡ true). rw e (set_keeps words (latches_at + x) v (omega (arith, ltb-true x latch_places e)) q))
      (λ (e : ltb x latch_places ≡ false). rw e q)
      (bool_cases (ltb x latch_places))

  -- entries go one by one
  pub unwound_keeps : (w d : ℕ) (words : List ℕ) → length words ≡ process_words → Q words → Q (unwound w d words)
  unfolding unwound
  unwound_keeps w zero words sized q = q
  unwound_keeps w (suc d) words sized q =
      let once = pops words sized q in
      picked (eqb (top words) w) once (unwound_keeps w d (popped words) (popped-length words ∙ sized) once)
    where
      picked : (test : Bool) → Q (popped words) → Q (unwound w d (popped words))
          → Q (cond test (popped words) (unwound w d (popped words)))
      picked true f g = f
      picked false f g = g

-- every entry is a statement: what question 23 asks of a stack
abbrev pub Statements : Program → List ℕ → Type 0
Statements program words = Each (λ n i. is_statement program n ≡ true) words

-- with a record that fits, question 23 holds of the process
pub statements-fit : (program : Program) (state roll : List ℕ) (q : ℕ) → Statements program (process_at state q)
    → record_fits program (process_at state q) roll q ≡ true → process_fits program state roll q ≡ true
unfolding process_fits stack_fits
statements-fit program state roll q all fits =
    let words = process_at state q in
    both_true _ _
    (both_true _ _ (le-leb (depth words) stack_places all.depth-high)
    (all_true (λ i. is_statement program (entry words i)) (depth words) all.entries))
    fits

module _ (program : Program) where
  abbrev sort : ℕ → ℕ → Type 0
  sort n i = is_statement program n ≡ true

  -- a step of a statement that has the place it needs
  module _ (f : Formed program) (words : List ℕ) (sized : length words ≡ process_words) (all : Statements program words)
      (h : 0 < depth words) (env : Environment) where
    looped : (b : ℕ) (test : Bool) → is_statement program b ≡ true → (not test ≡ true → depth words < stack_places)
        → Statements program (cond test (popped words) (pushed words b))
    looped b true s place = each-popped sort words sized all
    looped b false s place = each_pushed sort words sized all b (place refl) s

    chosen : (b c : ℕ) (test : Bool) → (is_statement program b ≡ true) × (is_statement program c ≡ true)
        → Statements program (replaced words (cond test c b))
    chosen b c true s = each-replaced sort words sized all c h s.1
    chosen b c false s = each-replaced sort words sized all b h s.0

    statements-by : (s : Statement) → statement_at program (top words) ≡ s
        → (needs_place program env s ≡ true → depth words < stack_places) → Statements program (advanced program env words s)
    unfolding advanced needs_place
    statements-by nothing e place = each-popped sort words sized all
    statements-by (assign a b) e place =
        let v = value program env b in
        each-popped sort (set words a v) (length-set words a v ∙ sized)
        (set_keeps (Statements program) (each-kept sort) (each-popped sort) words a v (assign-low program f (top words) a b e) all)
    statements-by (sequence a b) e place =
        let parts = sequence-statements program f (top words) a b e in
        each_pushed sort (replaced words b) (replaced-length words b ∙ sized)
        (each-replaced sort words sized all b h parts.1) a (rw (replaced-depth words sized b h) (place refl)) parts.0
    statements-by (branch a b c) e place =
        chosen b c (eqb (value program env a) 0) (branch-statements program f (top words) a b c e)
    statements-by (loop a b) e place = looped b (eqb (value program env a) 0) (loop-statement program f (top words) a b e) place
    statements-by (call q) e place =
        each-replaced sort words sized all (body program q) h (f.body-statement q (call_below program f (top words) q e))
    statements-by (latch a b) e place =
        let x = value program env a in
        let v = value program env b in
        each-popped sort (cond (ltb x latch_places) (set words (latches_at + x) v) words)
        (latched_length words (ltb x latch_places) (latches_at + x) v ∙ sized)
        (latch_keeps (Statements program) (each-kept sort) (each-popped sort) words x v all)
    statements-by (collective k) e place = all
    statements-by leave e place =
        unwound_keeps (Statements program) (each-kept sort) (each-popped sort) (nearest_loop program (top words)) (depth words) words
        sized all

    pub statements-advanced : (needs_place program env (statement_at program (top words)) ≡ true → depth words < stack_places)
        → Statements program (advanced program env words (statement_at program (top words)))
    statements-advanced place = statements-by (statement_at program (top words)) refl place
