-- The stack never overflows after a start: each of its entries has a home, so question 24 refuses no step of a run. And a leave
-- has its while below it.
use mathlib.Core.Bool.{Bool, true, false, cond, not, and-false}
use mathlib.Core.List.{List}
use mathlib.Core.Logic.{inl, inr, ⊎_elim}
use mathlib.Core.Path.{◌≡◌, refl, sym, ◌∙◌, ap, subst}
use Prim.Native.Nat.{ℕ, zero, suc, ◌+◌, ◌-◌, ◌≤◌, ◌<◌}
use native.Mathlib.Decide.{dec_lt}
use native.Mathlib.Omega.{arith}
use lib.Dec.{ltb, eqb}
use lib.ListN.{length, set, length-set}
use borrow.Author.Tests.{eqb-true, eq-eqb}
use Rattle.rules.specs.Collective.{received}
use Rattle.rules.specs.Evaluation.{Environment, value}
use Rattle.rules.specs.Judgement.{live}
use Rattle.rules.specs.Process.{latch_places, most_processes, latches_at, stack_places, process_words}
use Rattle.rules.specs.Process.{process_at, environment, depth, top, popped, replaced, pushed, advanced, needs_place}
use Rattle.rules.specs.Step.{leave_fits, place_lacked}
use Rattle.rules.specs.Table.{Program, procedures, nodes, body, main_body, statement_at, is_leave}
use Rattle.rules.specs.Table.{Statement, nothing, assign, sequence, branch, loop, call, latch, collective, leave, Collective}
use Rattle.rules.specs.WellFormed.{is_statement, open_parts, nearest_loop}
use Rattle.rules.proofs.ChoiceLaws.{bool_cases, all-false}
use Rattle.rules.proofs.EntryLaws.{Each, each-kept, each-popped, each-replaced, each_pushed}
use Rattle.rules.proofs.EntryLaws.{set_keeps, latch_keeps, unwound_keeps, Statements}
use Rattle.rules.proofs.Formed.{Formed, Enclosed}
use Rattle.rules.proofs.HomeLaws.{Home, calls-body, sequence-homes, branch_home, loop_home, call_home}
use Rattle.rules.proofs.HomeLaws.{sequence-place, loop-place, assign-low, call_below}
use Rattle.rules.proofs.LiveLaws.{live-body}
use Rattle.rules.proofs.LoopLaws.{OpenPart, nearest_part, nearest_body, nearest_procedure}
use Rattle.rules.proofs.LoopLaws.{Within, Inside, inside_near, inside-same}
use Rattle.rules.proofs.SizeLaws.{room, room-suc, room-all}
use Rattle.rules.proofs.StackLaws.{entry, popped-depth, popped-entry, replaced-depth, replaced-entry, replaced-top}
use Rattle.rules.proofs.StackLaws.{pushed-depth, pushed-entry, pushed-top, top-entry}
use Rattle.rules.proofs.StackLaws.{StoresLow, received-depth, received-entry, received-length, replaced-length}
use Rattle.rules.proofs.StackLaws.{latched_length, stack_of, stack, stack_of-kept, stack_top, stack-replaced}

-- a stack of nodes at home, each inside its nearest while
pub record Placed (program : Program) (words : List ℕ) : Type 0 where
  pub depth-high : depth words ≤ stack_places
  pub homes : (i : ℕ) → i < depth words → Home program (entry words i) i
  pub inside : (i : ℕ) → i < depth words → Inside program (entry words i) (stack_of words i)

homes_of : (program : Program) (words : List ℕ) → Placed program words → Each (Home program) words
homes_of program words placed = record { depth-high = placed.depth-high; entries = placed.homes }

-- the stack's moves

placed-kept : (program : Program) (words others : List ℕ) → depth others ≡ depth words
    → ((i : ℕ) → entry others i ≡ entry words i) → Placed program words → Placed program others
placed-kept program words others e same placed =
    let home = each-kept (Home program) words others e same (homes_of program words placed) in
    record {
      depth-high = home.depth-high;
      homes = home.entries;
      inside = λ i l.
          inside-same program (entry others i) (entry words i) (stack_of others i) (stack_of words i) (same i)
          (stack_of-kept others words i (λ j m. same j)) (placed.inside i (omega arith));
    }

module _ (program : Program) (words : List ℕ) (sized : length words ≡ process_words) (placed : Placed program words) where
  placed-popped : Placed program (popped words)
  placed-popped =
      let e = popped-depth words sized in
      let home = each-popped (Home program) words sized (homes_of program words placed) in
      record {
        depth-high = home.depth-high;
        homes = home.entries;
        inside = λ i l.
            inside-same program (entry (popped words) i) (entry words i) (stack_of (popped words) i) (stack_of words i)
            (popped-entry words sized i (omega arith))
            (stack_of-kept (popped words) words i (λ j m. popped-entry words sized j (omega arith)))
            (placed.inside i (omega arith));
      }

  placed-replaced : (n : ℕ) → 0 < depth words → Home program n (depth words - 1)
      → Inside program n (stack_of words (depth words - 1)) → Placed program (replaced words n)
  placed-replaced n h new within =
      let e = replaced-depth words sized n h in
      let high = placed.depth-high in
      let home = each-replaced (Home program) words sized (homes_of program words placed) n h new in
      record {
        depth-high = home.depth-high;
        homes = home.entries;
        inside = λ i l.
            let below : stack_of (replaced words n) i ≡ stack_of words i =
            stack_of-kept (replaced words n) words i (λ j m. replaced-entry words sized n j (omega arith)) in
            elim (dec_lt i (depth words - 1)) [
              | yes m ↦
                  inside-same program (entry (replaced words n) i) (entry words i) (stack_of (replaced words n) i)
                  (stack_of words i) (replaced-entry words sized n i m) below (placed.inside i (omega arith))
              | no m ↦
                  let here : i ≡ depth words - 1 = omega arith in
                  inside-same program (entry (replaced words n) i) n (stack_of (replaced words n) i)
                  (stack_of words (depth words - 1)) (ap (entry (replaced words n)) here ∙ replaced-top words sized n h high)
                  (below ∙ ap (stack_of words) here) within
            ];
      }

  placed-pushed : (n : ℕ) → depth words < stack_places → Home program n (depth words) → Inside program n (stack words)
      → Placed program (pushed words n)
  placed-pushed n h new within =
      let e = pushed-depth words sized n in
      let home = each_pushed (Home program) words sized (homes_of program words placed) n h new in
      record {
        depth-high = home.depth-high;
        homes = home.entries;
        inside = λ i l.
            let below : stack_of (pushed words n) i ≡ stack_of words i =
            stack_of-kept (pushed words n) words i (λ j m. pushed-entry words sized n j (omega arith)) in
            elim (dec_lt i (depth words)) [
              | yes m ↦
                  inside-same program (entry (pushed words n) i) (entry words i) (stack_of (pushed words n) i)
                  (stack_of words i) (pushed-entry words sized n i m) below (placed.inside i m)
              | no m ↦
                  let here : i ≡ depth words = omega arith in
                  inside-same program (entry (pushed words n) i) n (stack_of (pushed words n) i) (stack words)
                  (ap (entry (pushed words n)) here ∙ pushed-top words sized n h) (below ∙ ap (stack_of words) here) within
            ];
      }

-- what question 23 asks of the stack
pub placed-statements : (program : Program) (words : List ℕ) → Placed program words → Statements program words
placed-statements program words placed =
    record { depth-high = placed.depth-high; entries = λ i l. (placed.homes i l).statement }

-- a process takes away what a collective gives, and its top goes
pub placed-received : (program : Program) (roll : List ℕ) (count : ℕ) (k : Collective) (p : ℕ) (words : List ℕ)
    → length words ≡ process_words → Placed program words → count ≤ most_processes → StoresLow k
    → Placed program (popped (received roll count k p words))
placed-received program roll count k p words sized placed h low =
    placed-popped program (received roll count k p words) (received-length roll count k p words ∙ sized)
    (placed-kept program words (received roll count k p words) (received-depth roll count k p words h low)
    (λ i. received-entry roll count k p words i h low) placed)

module _ (program : Program) (f : Formed program) (words : List ℕ) (sized : length words ≡ process_words)
    (placed : Placed program words) (h : 0 < depth words) where
  top_home : Home program (top words) (depth words - 1)
  top_home = rw (top-entry words sized h) (placed.homes (depth words - 1) (omega arith))

  pub top-inside : Inside program (top words) (stack_of words (depth words - 1))
  top-inside =
      inside-same program (top words) (entry words (depth words - 1)) (stack_of words (depth words - 1))
      (stack_of words (depth words - 1)) (top-entry words sized h) refl (placed.inside (depth words - 1) (omega arith))

  -- a part that stands in the same while
  part-inside : (a : ℕ) → OpenPart program f a (top words) → Inside program a (stack_of words (depth words - 1))
  part-inside a i =
      inside_near program (top words) a (stack_of words (depth words - 1)) (nearest_part program f (top words) a i) top-inside

  -- what question 23 asks of a leave
  within-found : (w k : ℕ) → Within program w (stack_of words k) → (i : ℕ) × (i < k) × (entry words i ≡ w)
  within-found w zero none = absurd none
  within-found w (suc k) (inl e) = (k, omega arith, e)
  within-found w (suc k) (inr deeper) = let (i, l, e) = within-found w k deeper.1 in (i, omega arith, e)

  is-leave : (s : Statement) → is_leave s ≡ true → s ≡ leave
  is-leave nothing e = let z : ◌≡◌ {A = ℕ} 0 1 = cc in absurd (omega arith)
  is-leave (assign a b) e = let z : ◌≡◌ {A = ℕ} 0 1 = cc in absurd (omega arith)
  is-leave (sequence a b) e = let z : ◌≡◌ {A = ℕ} 0 1 = cc in absurd (omega arith)
  is-leave (branch a b c) e = let z : ◌≡◌ {A = ℕ} 0 1 = cc in absurd (omega arith)
  is-leave (loop a b) e = let z : ◌≡◌ {A = ℕ} 0 1 = cc in absurd (omega arith)
  is-leave (call p) e = let z : ◌≡◌ {A = ℕ} 0 1 = cc in absurd (omega arith)
  is-leave (latch a b) e = let z : ◌≡◌ {A = ℕ} 0 1 = cc in absurd (omega arith)
  is-leave (collective k) e = let z : ◌≡◌ {A = ℕ} 0 1 = cc in absurd (omega arith)
  is-leave leave e = refl

  pub leave_fits_lem : Enclosed program → leave_fits program words ≡ true
  unfolding leave_fits
  leave_fits_lem enclosed =
      let w = nearest_loop program (top words) in
      ⊎_elim
      (λ (e : is_leave (statement_at program (top words)) ≡ true).
      let near = enclosed (top words) (is-leave (statement_at program (top words)) e) in
      let (i, l, g) = within-found w (depth words - 1) (top-inside near) in
      simp (e, all-false (λ j. not (eqb (entry words j) w)) (depth words - 1) i l (simp (eq-eqb (entry words i) w g))))
      (λ (e : is_leave (statement_at program (top words)) ≡ false). simp e)
      (bool_cases (is_leave (statement_at program (top words))))

  pub top-alive : live program (top words) ≡ true
  top-alive = top_home.alive

  pub top-statement : is_statement program (top words) ≡ true
  top-statement = top_home.statement

  placed-loop : (a b : ℕ) (test : Bool) → statement_at program (top words) ≡ loop a b
      → Placed program (cond test (popped words) (pushed words b))
  placed-loop a b true s = placed-popped program words sized placed
  placed-loop a b false s =
      let e : suc (depth words - 1) ≡ depth words = omega arith in
      let place : depth words < stack_places = omega (arith, loop-place program f (top words) (depth words - 1) top_home a b s) in
      placed-pushed program words sized placed b place
      (rw e at (loop_home program f (top words) (depth words - 1) top_home a b s))
      (λ l. subst (Within program (nearest_loop program b)) (sym (stack_top words sized h)) (inl (sym (nearest_body program f (top words) a b s))))

  placed-sequence : (a b : ℕ) → statement_at program (top words) ≡ sequence a b → Placed program (pushed (replaced words b) a)
  unfolding open_parts
  placed-sequence a b s =
      let homes = sequence-homes program f (top words) (depth words - 1) top_home a b s in
      let first : OpenPart program f a (top words) = rw s (inl refl) in
      let second : OpenPart program f b (top words) = rw s (inr (inl refl)) in
      let kept : depth (replaced words b) ≡ depth words = replaced-depth words sized b h in
      let e : suc (depth words - 1) ≡ depth (replaced words b) = omega arith in
      let place : depth (replaced words b) < stack_places =
      omega (arith, sequence-place program f (top words) (depth words - 1) top_home a b s) in
      placed-pushed program (replaced words b) (replaced-length words b ∙ sized)
      (placed-replaced program words sized placed b h homes.1 (part-inside b second)) a place (rw e at homes.0)
      (λ l.
      subst (Within program (nearest_loop program a)) (sym (stack-replaced words sized b h placed.depth-high))
      (inr (nearest_part program f (top words) b second ∙ sym (nearest_part program f (top words) a first), part-inside a first l)))

  branch-inside : (a b c : ℕ) (test : Bool) → statement_at program (top words) ≡ branch a b c
      → Inside program (cond test c b) (stack_of words (depth words - 1))
  unfolding open_parts
  branch-inside a b c true s = part-inside c (rw s (inr (inl refl)))
  branch-inside a b c false s = part-inside b (rw s (inl refl))

  module _ (env : Environment) where
    advanced-by : (s : Statement) → statement_at program (top words) ≡ s → Placed program (advanced program env words s)
    unfolding advanced
    advanced-by nothing e = placed-popped program words sized placed
    advanced-by (assign a b) e =
        let v = value program env b in
        placed-popped program (set words a v) (length-set words a v ∙ sized)
        (set_keeps (Placed program) (placed-kept program) (placed-popped program) words a v (assign-low program f (top words) a b e) placed)
    advanced-by (sequence a b) e = placed-sequence a b e
    advanced-by (branch a b c) e =
        let test = eqb (value program env a) 0 in
        placed-replaced program words sized placed (cond test c b) h
        (branch_home program f (top words) (depth words - 1) top_home a b c env test refl e) (branch-inside a b c test e)
    advanced-by (loop a b) e = placed-loop a b (eqb (value program env a) 0) e
    advanced-by (call q) e =
        placed-replaced program words sized placed (body program q) h
        (call_home program f (top words) (depth words - 1) top_home q e)
        (λ l. absurd (omega (arith, nearest_procedure program f q (call_below program f (top words) q e))))
    advanced-by (latch a b) e =
        let x = value program env a in
        let v = value program env b in
        placed-popped program (cond (ltb x latch_places) (set words (latches_at + x) v) words)
        (latched_length words (ltb x latch_places) (latches_at + x) v ∙ sized)
        (latch_keeps (Placed program) (placed-kept program) (placed-popped program) words x v placed)
    advanced-by (collective k) e = placed
    advanced-by leave e =
        unwound_keeps (Placed program) (placed-kept program) (placed-popped program) (nearest_loop program (top words)) (depth words)
        words sized placed

    -- a step of a statement that is no collective keeps the homes; a collective is left where it is
    pub placed-advanced : Placed program (advanced program env words (statement_at program (top words)))
    placed-advanced = advanced-by (statement_at program (top words)) refl

    no_place : (s : Statement) → statement_at program (top words) ≡ s → depth words ≡ stack_places
        → needs_place program env s ≡ false
    unfolding needs_place
    no_place nothing e d = refl
    no_place (assign a b) e d = refl
    no_place (sequence a b) e d =
        absurd (omega (arith, sequence-place program f (top words) (depth words - 1) top_home a b e))
    no_place (branch a b c) e d = refl
    no_place (loop a b) e d = absurd (omega (arith, loop-place program f (top words) (depth words - 1) top_home a b e))
    no_place (call q) e d = refl
    no_place (latch a b) e d = refl
    no_place (collective k) e d = refl
    no_place leave e d = refl

    -- what question 24 asks: at the full depth no place is needed
    pub placed_needs : depth words ≡ stack_places → needs_place program env (statement_at program (top words)) ≡ false
    placed_needs d = no_place (statement_at program (top words)) refl d

-- question 24 refuses no process whose stack is placed
pub place-free : (program : Program) → Formed program → (state roll : List ℕ) (count p : ℕ)
    → length (process_at state p) ≡ process_words → Placed program (process_at state p)
    → place_lacked program state roll count p ≡ false
unfolding place_lacked
place-free program f state roll count p sized placed =
    let words = process_at state p in
    ⊎_elim
    (λ (e : eqb (depth words) stack_places ≡ true).
    let full : depth words ≡ stack_places = eqb-true (depth words) stack_places e in
    let needs : needs_place program (environment words p count) (statement_at program (top words)) ≡ false =
    placed_needs program f words sized placed (omega arith) (environment words p count) full in
    rw (needs, and-false))
    (λ (e : eqb (depth words) stack_places ≡ false). rw (e, and-false))
    (bool_cases (eqb (depth words) stack_places))

-- what a start lays out is one entry, the main body: all bodies together take as many places as there are nodes
pub placed_one : (program : Program) → Formed program → (words : List ℕ) → depth words ≡ 1 → entry words 0 ≡ main_body program
    → Placed program words
unfolding main_body
placed_one program f words d e =
    let last = procedures program - 1 in
    let low = f.procedures-low in
    let below : last < procedures program = omega arith in
    let all : room program (suc last) ≡ nodes program = ap (room program) (omega arith) ∙ room-all program f in
    let home : Home program (body program last) 0 =
    record {
      statement = f.body-statement last below;
      procedure = last;
      procedure-below = below;
      calls = calls-body program f last below;
      fits = omega (arith, all, room-suc program last);
      alive = live-body program f last below;
    } in
    record {
      depth-high = omega arith;
      homes = λ i l. let z : i ≡ 0 = omega arith in rw (z, e) home;
      inside = λ i l.
          let z : i ≡ 0 = omega arith in
          inside-same program (entry words i) (body program last) (stack_of words i) (stack_of words i) (ap (entry words) z ∙ e) refl
          (λ m. absurd (omega (arith, nearest_procedure program f last below)));
    }
