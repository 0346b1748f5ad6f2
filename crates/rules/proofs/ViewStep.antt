-- A process's step, seen in its view: a statement that is not visible leaves the view, any other but a collective takes it one
-- step on.
use mathlib.Core.Bool.{Bool, true, false, cond, not, ◌&&◌, ◌||◌}
use mathlib.Core.List.{List, [], ◌∷◌}
use mathlib.Core.Path.{◌≡◌, refl, sym, ◌∙◌, ap, subst}
use mathlib.Core.Logic.{inl, inr, ⊎_elim}
use Prim.Native.Nat.{ℕ, ◌+◌, ◌-◌, ◌≤◌, ◌<◌}
use native.Mathlib.Omega.{arith}
use lib.Dec.{ltb, eqb}
use lib.ListN.{length, set, length-set}
use borrow.Author.Tests.{lt-ltb, ltb-true, ne_eqb}
use Rattle.rules.specs.Acceptance.{rule_of, body_flagged}
use Rattle.rules.specs.Evaluation.{Environment, value}
use Rattle.rules.specs.Judgement.{single, live, counted, effect_of, left_locally}
use Rattle.rules.specs.Process.{variable_places, latch_places, most_processes, environment, latches_at, depth_at, stack_places, process_words}
use Rattle.rules.specs.Process.{depth, top, popped, replaced, pushed, unwound, advanced, needs_place}
use Rattle.rules.specs.Table.{Program, variables, flagged, body, effect_flag, procedures, statement_at, is_leave}
use Rattle.rules.specs.Table.{Statement, nothing, assign, sequence, branch, loop, call, latch, collective, leave}
use Rattle.rules.specs.WellFormed.{open_parts, nearest_loop}
use Rattle.rules.proofs.AnswerLaws.{both_true, implied}
use Rattle.rules.proofs.ChoiceLaws.{bool_cases}
use Rattle.rules.proofs.Formed.{Formed, Enclosed}
use Rattle.rules.proofs.Judged.{Judged}
use Rattle.rules.proofs.LiveLaws.{effectful, effect-live}
use Rattle.rules.proofs.LoopLaws.{Inside, nearest_loop_lem}
use Rattle.rules.proofs.PartLaws.{statement-fits}
use Rattle.rules.proofs.SingleLaws.{single-value}
use Rattle.rules.proofs.StackLaws.{stack, stack_of, stack_of-kept, stack_top, stack-popped, stack-replaced, stack-pushed}
use Rattle.rules.proofs.StackLaws.{set-depth, set-entry, replaced-length, replaced-depth, dropped_to, unwound-below, stack-unwound}
use Rattle.rules.proofs.View.{View, view_of, visible, visible-effect, adding, loud, with_pending, with_variable}
use Rattle.rules.proofs.View.{view_advanced, view_step_on, Reached, reached-step}
use Rattle.rules.proofs.ViewLaws.{SameShown, view_kept, popped-shown, replaced-shown, pushed-shown, set_high_shown}
use Rattle.rules.proofs.ViewLaws.{set_local_shown, low-shown, shown-through, assigned_view}
use Rattle.rules.proofs.VisibleLaws.{denied, visible_plain, visible-procedure, quiet-part, quiet-body, leave-quiet}
use Rattle.rules.proofs.VisibleLaws.{leave-loud, dropped_quiet, dropped_loud, branch-single}

-- the entries below the top, after a store below the stack
rest-set : (words : List ℕ) (a v : ℕ) → a < depth_at
    → stack_of (set words a v) (depth (set words a v) - 1) ≡ stack_of words (depth words - 1)
rest-set words a v l =
    ap (λ d. stack_of (set words a v) (d - 1)) (set-depth words a v l)
    ∙ stack_of-kept (set words a v) words (depth words - 1) (λ i h. set-entry words a v i l)

-- a test that holds, of which the first part is denied
not_or_false : (s t : Bool) → (not s || t) ≡ true → t ≡ false → s ≡ false
not_or_false true t e f = let z : ◌≡◌ {A = ℕ} 0 1 = cc in absurd (omega arith)
not_or_false false t e f = refl

-- what the rule of question 16 leaves to a body with an effect
loop-single : (s l b : Bool) → ((s && not l) || not b) ≡ true → b ≡ true → s ≡ true
loop-single true l b r e = refl
loop-single false l true r e = r
loop-single false l false r e = e

-- the body of a procedure without the flag is not visible
unflagged-body : (program : Program) (formed : Formed program) (judged : Judged program) (p : ℕ) → p < procedures program
    → effect_flag program p ≡ false → visible program (body program p) ≡ false
unfolding body_flagged
unflagged-body program formed judged p l f =
    denied (visible program (body program p)) (effectful program (body program p)) (visible-procedure program formed p l)
    (not_or_false (effectful program (body program p)) (effect_flag program p) (judged.body-flagged p l) f)

module _ (program : Program) (formed : Formed program) (enclosed : Enclosed program) (judged : Judged program) (words : List ℕ)
    (own count : ℕ) (few : count ≤ most_processes)
    (sized : length words ≡ process_words) (some : 0 < depth words) (most : depth words ≤ stack_places)
    (inside : Inside program (top words) (stack_of words (depth words - 1))) (alive : live program (top words) ≡ true) where
  -- the entries below the top
  abbrev rest : List ℕ
  rest = stack_of words (depth words - 1)

  abbrev env : Environment
  env = environment words own count

  -- a popped stack shows its rest, after a store that is not shown
  popped_view : (a v : ℕ) → a < depth_at → SameShown program (set words a v) words
      → view_of program (popped (set words a v)) ≡ with_pending (view_of program words) (loud program rest)
  popped_view a v l same =
      view_kept program (popped (set words a v)) words (loud program rest)
      (shown-through program (popped (set words a v)) (set words a v) words (popped-shown program formed (set words a v)) same)
      (ap (loud program) (stack-popped (set words a v) (length-set words a v ∙ sized) ∙ rest-set words a v l))

  plain_popped_view : view_of program (popped words) ≡ with_pending (view_of program words) (loud program rest)
  plain_popped_view =
      view_kept program (popped words) words (loud program rest) (popped-shown program formed words)
      (ap (loud program) (stack-popped words sized))

  replaced_view : (n : ℕ) → view_of program (replaced words n) ≡ with_pending (view_of program words) (adding program n (loud program rest))
  replaced_view n =
      view_kept program (replaced words n) words (adding program n (loud program rest)) (replaced-shown program formed words n)
      (ap (loud program) (stack-replaced words sized n some most))

  pushed_view : (n : ℕ) → depth words < stack_places
      → view_of program (pushed words n) ≡ with_pending (view_of program words) (adding program n (adding program (top words) (loud program rest)))
  pushed_view n l =
      view_kept program (pushed words n) words (adding program n (adding program (top words) (loud program rest)))
      (pushed-shown program formed words n)
      (ap (loud program) (stack-pushed words sized n l) ∙ ap (λ s. adding program n (loud program s)) (stack_top words sized some))

  sequence_view : (a b : ℕ) → depth words < stack_places
      → view_of program (pushed (replaced words b) a)
      ≡ with_pending (view_of program words) (adding program a (adding program b (loud program rest)))
  sequence_view a b l =
      let sized2 : length (replaced words b) ≡ process_words = replaced-length words b ∙ sized in
      let low : depth (replaced words b) < stack_places = rw (replaced-depth words sized b some) l in
      view_kept program (pushed (replaced words b) a) words (adding program a (adding program b (loud program rest)))
      (shown-through program (pushed (replaced words b) a) (replaced words b) words
      (pushed-shown program formed (replaced words b) a) (replaced-shown program formed words b))
      (ap (loud program) (stack-pushed (replaced words b) sized2 a low)
      ∙ ap (λ s. adding program a (loud program s)) (stack-replaced words sized b some most))

  latch_view : (a v : ℕ)
      → view_of program (popped (cond (ltb a latch_places) (set words (latches_at + a) v) words))
      ≡ with_pending (view_of program words) (loud program rest)
  latch_view a v =
      ⊎_elim
      (λ (e : ltb a latch_places ≡ true).
      let l : a < latch_places = ltb-true a latch_places e in
      simp e (popped_view (latches_at + a) v (omega arith) (set_high_shown program formed words (latches_at + a) v (omega arith))))
      (λ (e : ltb a latch_places ≡ false). simp e plain_popped_view)
      (bool_cases (ltb a latch_places))

  -- a leave takes off what lies above its while, and the while
  leave_view : statement_at program (top words) ≡ leave
      → view_of program (unwound (nearest_loop program (top words)) (depth words) words)
      ≡ with_pending (view_of program words) (loud program (dropped_to (nearest_loop program (top words)) rest))
  leave_view s =
      let w = nearest_loop program (top words) in
      let (a, b, t, o) = nearest_loop_lem program formed (top words) (enclosed (top words) s) in
      let other : eqb (top words) w ≡ false = ne_eqb (top words) w (λ e. unlike a b (sym s ∙ (ap (statement_at program) e ∙ t))) in
      let first : dropped_to w (top words ∷ rest) ≡ dropped_to w rest = simp other in
      view_kept program (unwound w (depth words) words) words (loud program (dropped_to w rest))
      (low-shown program formed words (unwound w (depth words) words) (λ j l. unwound-below w (depth words) words j (omega arith)))
      (ap (loud program)
      (stack-unwound w (depth words) words sized refl ∙ (ap (dropped_to w) (stack_top words sized some) ∙ first)))
    where
      unlike : (a b : ℕ) → leave ≡ loop a b → ⊥
      unlike a b e = let z : ◌≡◌ {A = ℕ} 0 1 = cc in omega arith

  -- a statement that is not visible
  quiet_view : (s : Statement) → statement_at program (top words) ≡ s
      → visible program (top words) ≡ false → effect_of program (effectful program) s ≡ false
      → (needs_place program env s ≡ true → depth words < stack_places)
      → view_of program (advanced program env words s) ≡ with_pending (view_of program words) (loud program rest)
  unfolding effect_of needs_place advanced open_parts
  quiet_view nothing s q e room = plain_popped_view
  quiet_view (assign a b) s q e room =
      let l : a < variable_places =
      omega (arith, ltb-true a (variables program) (statement-fits program formed (top words) s).0, formed.variables-high) in
      popped_view a (value program env b) (omega arith) (set_local_shown program formed words a (value program env b) (simp e) l)
  quiet_view (sequence a b) s q e room =
      sequence_view a b (room refl)
      ∙ simp (quiet-part program formed (top words) a (rw s (inl refl)) q, quiet-part program formed (top words) b (rw s (inr (inl refl))) q)
  quiet_view (branch a b c) s q e room =
      ⊎_elim
      (λ (t : eqb (value program env a) 0 ≡ true).
      simp t (replaced_view c ∙ simp (quiet-part program formed (top words) c (rw s (inr (inl refl))) q)))
      (λ (t : eqb (value program env a) 0 ≡ false).
      simp t (replaced_view b ∙ simp (quiet-part program formed (top words) b (rw s (inl refl)) q)))
      (bool_cases (eqb (value program env a) 0))
  quiet_view (loop a b) s q e room =
      ⊎_elim
      (λ (t : eqb (value program env a) 0 ≡ true). simp t plain_popped_view)
      (λ (t : eqb (value program env a) 0 ≡ false).
      simp t (pushed_view b (room (simp t)) ∙ simp (q, quiet-body program formed (top words) a b s q)))
      (bool_cases (eqb (value program env a) 0))
  quiet_view (call p) s q e room =
      let low = ltb-true p (procedures program) (statement-fits program formed (top words) s).0 in
      replaced_view (body program p) ∙ simp (unflagged-body program formed judged p low e)
  quiet_view (latch a b) s q e room = latch_view (value program env a) (value program env b)
  quiet_view (collective k) s q e room = let z : ◌≡◌ {A = ℕ} 0 1 = cc in absurd (omega arith)
  quiet_view leave s q e room =
      let (a, b, t, o) = nearest_loop_lem program formed (top words) (enclosed (top words) s) in
      leave_view s
      ∙ ap (with_pending (view_of program words))
      (dropped_quiet program formed (nearest_loop program (top words)) a b t (leave-quiet program formed (top words) s alive q) rest
      (inside (enclosed (top words) s)))

  abbrev seen : View
  seen = view_of program words

  loop_view : (a b : ℕ) → (not (eqb (value program env a) 0) ≡ true → depth words < stack_places) → visible program (top words) ≡ true
      → view_of program (cond (eqb (value program env a) 0) (popped words) (pushed words b))
      ≡ with_pending seen (cond (eqb (value program env a) 0) (loud program rest) (adding program b (top words ∷ loud program rest)))
  loop_view a b room q =
      ⊎_elim
      (λ (t : eqb (value program env a) 0 ≡ true). simp t plain_popped_view)
      (λ (t : eqb (value program env a) 0 ≡ false). simp t (pushed_view b (room (simp t)) ∙ simp q))
      (bool_cases (eqb (value program env a) 0))

  -- a single variable takes a value
  assign_view : (a v : ℕ) → flagged program a ≡ true → a < variables program
      → view_of program (popped (set words a v)) ≡ with_variable seen a v (loud program rest)
  assign_view a v f l =
      assigned_view program formed words a v (loud program rest)
      (both_true (flagged program a) (ltb a (variables program)) f (lt-ltb a (variables program) l))
      sized
      (ap (loud program)
      (stack-popped (set words a v) (length-set words a v ∙ sized)
      ∙ rest-set words a v (omega (arith, formed.variables-high))))

  -- a visible statement that is no leave and has no part in its while has an effect
  plainly : (s : Statement) → statement_at program (top words) ≡ s → visible program (top words) ≡ true → is_leave s ≡ false
      → open_parts s ≡ [] → effect_of program (effectful program) s ≡ true
  plainly s e v f none =
      sym (ap (effect_of program (effectful program)) e)
      ∙ (sym (effect-live program formed (top words) alive)
      ∙ visible_plain program formed (top words) (ap is_leave e ∙ f) (ap open_parts e ∙ none) v)

  -- a visible statement
  loud_view : (s : Statement) → statement_at program (top words) ≡ s
      → visible program (top words) ≡ true → (rule_of program (counted program) s).holds ≡ true
      → (needs_place program env s ≡ true → depth words < stack_places)
      → view_of program (advanced program env words s) ≡ view_advanced program count seen (top words) (loud program rest) s
  unfolding effect_of needs_place advanced rule_of view_advanced open_parts
  loud_view nothing s q r room = plain_popped_view
  loud_view (assign a b) s q r room =
      let e : flagged program a ≡ true = plainly (assign a b) s q refl refl in
      let l : a < variables program =
      ltb-true a (variables program) (statement-fits program formed (top words) s).0 in
      assign_view a (value program env b) e l
      ∙ ap (λ x. with_variable seen a x (loud program rest))
      (single-value program formed words own count few b (implied (flagged program a) (single program b) r e))
  loud_view (sequence a b) s q r room = sequence_view a b (room refl)
  loud_view (branch a b c) s q r room =
      replaced_view (cond (eqb (value program env a) 0) c b)
      ∙ ap (λ x. with_pending seen (adding program (cond (eqb x 0) c b) (loud program rest)))
      (single-value program formed words own count few a (branch-single program formed judged (top words) a b c s q))
  loud_view (loop a b) s q r room =
      loop_view a b room q
      ∙ ap (λ x. with_pending seen (cond (eqb x 0) (loud program rest) (adding program b (top words ∷ loud program rest))))
      (single-value program formed words own count few a
      (loop-single (single program a) (left_locally program (counted program) b) (effectful program b) r (plainly (loop a b) s q refl refl)))
  loud_view (call p) s q r room = replaced_view (body program p)
  loud_view (latch a b) s q r room = latch_view (value program env a) (value program env b)
  loud_view (collective k) s q r room = refl
  loud_view leave s q r room =
      let w = nearest_loop program (top words) in
      leave_view s
      ∙ ap (with_pending seen)
      (dropped_loud program formed w (visible-effect program w (leave-loud program formed (top words) s q)) rest
      (inside (enclosed (top words) s)))

  -- a step of a process is at most a step of its view
  pub reached-advanced : (g : View) → (needs_place program env (statement_at program (top words)) ≡ true → depth words < stack_places)
      → Reached program count g (view_of program words)
      → Reached program count g (view_of program (advanced program env words (statement_at program (top words))))
  unfolding view_step_on
  reached-advanced g room reached =
      ⊎_elim
      (λ (e : visible program (top words) ≡ true).
      let pending : loud program (stack words) ≡ top words ∷ loud program rest =
      ap (loud program) (stack_top words sized some) ∙ simp e in
      subst (Reached program count g)
      (ap (view_step_on program count seen) pending
      ∙ sym
      (loud_view (statement_at program (top words)) refl e (judged.rule-holds (top words) alive) room))
      (reached-step program count g seen reached))
      (λ (e : visible program (top words) ≡ false).
      let pending : loud program (stack words) ≡ loud program rest =
      ap (loud program) (stack_top words sized some) ∙ simp e in
      subst (Reached program count g)
      (sym
      (quiet_view (statement_at program (top words)) refl e
      (sym (effect-live program formed (top words) alive)
      ∙ denied (effectful program (top words)) (visible program (top words)) (visible-effect program (top words)) e)
      room
      ∙ ap (with_pending seen) (sym pending)))
      reached)
      (bool_cases (visible program (top words)))
