-- The judgement before there were switches. Where no if has a fixed condition, every node is live and counts as what it is, and the
-- judgement is the same. Elsewhere fewer nodes count, so there are fewer effects and leaves, and every rule that held still holds.
use mathlib.Core.Bool.{Bool, true, false, not, ◌&&◌, ◌||◌, and-true}
use mathlib.Core.Logic.{⊎_elim}
use mathlib.Core.Path.{◌≡◌, refl, sym, ◌∙◌, ap, fun_ext}
use Prim.Native.Nat.{ℕ, zero, suc, ◌<◌}
use native.Mathlib.Omega.{arith}
use lib.Dec.{ltb}
use borrow.Author.Tests.{ltb-true, lt-ltb}
use Rattle.rules.specs.Acceptance.{question1, rule_of, body_flagged, judged_by, checked}
use Rattle.rules.specs.Answers.{◌then◌}
use Rattle.rules.specs.Judgement.{single, never_taken, dead_in, live, counted, effect_of, effect, holds_leave, local_if, left_locally}
use Rattle.rules.specs.Switches.{Unswitched, JudgedAsBefore, StillAccepted}
use Rattle.rules.specs.Table.{Program, decode, effect_flag, nodes, body, statement_at, is_leave}
use Rattle.rules.specs.Table.{Statement, nothing, assign, sequence, branch, loop, call, latch, collective, leave}
use Rattle.rules.specs.Table.{barrier, broadcast, exchange}
use Rattle.rules.specs.WellFormed.{openly, well_formed}
use Rattle.rules.proofs.AnswerLaws.{both_left, both_right, both_true}
use Rattle.rules.proofs.ChoiceLaws.{bool_cases, all_true}
use Rattle.rules.proofs.Formed.{Formed, formed}
use Rattle.rules.proofs.Judged.{judged-passed, passed-judged}
use Rattle.rules.proofs.LiveLaws.{effectful, leaving, counted-live, counted-dead, effect-live, effect-alive}
use Rattle.rules.proofs.LoopLaws.{by_open, openly_self, openly-part}
use Rattle.rules.proofs.PartLaws.{statement-fits}
use Rattle.rules.proofs.ValueLaws.{effect-parts, effect-here}

-- no fixed condition

module _ (program : Program) (plain : Unswitched program) where
  dead_of : (n m : ℕ) (s : Statement) → statement_at program m ≡ s → not (dead_in program n s) ≡ true
  unfolding dead_in never_taken
  dead_of n m nothing e = refl
  dead_of n m (assign a b) e = refl
  dead_of n m (sequence a b) e = refl
  dead_of n m (branch a b c) e = rw (plain m a b c e) refl
  dead_of n m (loop a b) e = refl
  dead_of n m (call p) e = refl
  dead_of n m (latch a b) e = refl
  dead_of n m (collective k) e = refl
  dead_of n m leave e = refl

  all_live : (n : ℕ) → live program n ≡ true
  unfolding live
  all_live n =
      all_true (λ m. not (dead_in program n (statement_at program m))) (nodes program)
      (λ m l. dead_of n m (statement_at program m) refl)

  all-counted : counted program ≡ statement_at program
  all-counted = fun_ext (λ n. counted-live program n (all_live n))

pub judged_as_before : JudgedAsBefore
unfolding checked
judged_as_before table scratch plain =
    ap (λ (reading : ℕ → Statement). question1 scratch then well_formed table then judged_by (decode table) reading) (all-counted (decode table) plain)

-- fewer nodes that count

pub implies_or : (a b c d : Bool) → (a ≡ true → c ≡ true) → (b ≡ true → d ≡ true) → (a || b) ≡ true → (c || d) ≡ true
implies_or true b c d f g e = simp (f refl)
implies_or false b true d f g e = refl
implies_or false b false d f g e = g e

-- a rule that held with what was counted holds with what is left of it
pub still_if : (s a b c d : Bool) → (a ≡ true → c ≡ true) → (b ≡ true → d ≡ true) → (s || (not c && not d)) ≡ true
    → (s || (not a && not b)) ≡ true
still_if true a b c d f g e = refl
still_if false true b c d f g e = simp (f refl) at e
still_if false false true true d f g e = e
still_if false false true false d f g e = simp (g refl) at e
still_if false false false c d f g e = refl

pub still_while : (s l m a c : Bool) → (l ≡ true → m ≡ true) → (a ≡ true → c ≡ true) → ((s && not m) || not c) ≡ true
    → ((s && not l) || not a) ≡ true
still_while true false m a c f g e = refl
still_while true true m false c f g e = refl
still_while true true m true c f g e = simp (f refl, g refl) at e
still_while false l m false c f g e = refl
still_while false l m true c f g e = simp (g refl) at e

pub still_flagged : (a c flag : Bool) → (a ≡ true → c ≡ true) → (not c || flag) ≡ true → (not a || flag) ≡ true
still_flagged false c flag f e = refl
still_flagged true c flag f e = simp (f refl) at e

module _ (program : Program) (well : Formed program) where
  abbrev former : ℕ → Statement
  former = statement_at program

  effect_of_lem : (f g : ℕ → Bool) → ((a : ℕ) → f a ≡ true → g a ≡ true) → (s : Statement) → effect_of program f s ≡ true
      → effect_of program g s ≡ true
  unfolding effect_of
  effect_of_lem f g more nothing e = e
  effect_of_lem f g more (assign a b) e = e
  effect_of_lem f g more (sequence a b) e = implies_or (f a) (f b) (g a) (g b) (more a) (more b) e
  effect_of_lem f g more (branch a b c) e = implies_or (f b) (f c) (g b) (g c) (more b) (more c) e
  effect_of_lem f g more (loop a b) e = more b e
  effect_of_lem f g more (call p) e = e
  effect_of_lem f g more (latch a b) e = e
  effect_of_lem f g more (collective k) e = e
  effect_of_lem f g more leave e = e

  -- an effect among the parts below n
  effect-below : (k n : ℕ) → n < k → effectful program n ≡ true → effect program former n ≡ true
  effect-below zero n l e = absurd (omega arith)
  effect-below (suc k) n l e =
      let inner : ℕ → Bool = λ a. effectful program a && ltb a n in
      let own : effect_of program (effectful program) (former n) ≡ true =
      sym (effect-live program well n (effect-alive program well n e)) ∙ e in
      let below : effect_of program inner (former n) ≡ true =
      effect-parts program n inner (effectful program) (λ a h. simp (lt-ltb a n h, and-true)) (former n) (statement-fits program well n refl) ∙ own in
      effect-here program n former (well.statement-fits n)
      ∙ effect_of_lem inner (effect program former)
      (λ a h.
      effect-below k a (omega (arith, ltb-true a n (both_right (effectful program a) (ltb a n) h)))
      (both_left (effectful program a) (ltb a n) h))
      (former n) below

  effect-former : (n : ℕ) → effectful program n ≡ true → effect program former n ≡ true
  effect-former n e = effect-below (suc n) n (omega arith) e

  -- a node that counts counts as what it is
  counted-former : (test : Statement → Bool) → test nothing ≡ false → (n : ℕ) → test (counted program n) ≡ true
      → test (former n) ≡ true
  counted-former test none n e =
      ⊎_elim
      (λ (h : live program n ≡ true). sym (ap test (counted-live program n h)) ∙ e)
      (λ (h : live program n ≡ false).
      let dead = ap test (counted-dead program n h) ∙ none in
      let z : ◌≡◌ {A = ℕ} 0 1 = cc in
      absurd (omega arith))
      (bool_cases (live program n))

  openly-more : (f g : ℕ → Bool) → ((n : ℕ) → f n ≡ true → g n ≡ true) → (n : ℕ) → openly program f n ≡ true
      → openly program g n ≡ true
  openly-more f g more n e =
      by_open program well f (λ k. openly program g k ≡ true) (λ k h. openly_self program well g k (more k h))
      (λ k a i h. openly-part program well g k a i h) n e

  leave-former : (n : ℕ) → leaving program n ≡ true → holds_leave program former n ≡ true
  unfolding holds_leave
  leave-former n e =
      openly-more (λ k. is_leave (counted program k)) (λ k. is_leave (former k)) (counted-former is_leave refl) n e

  left-former : (n : ℕ) → left_locally program (counted program) n ≡ true → left_locally program former n ≡ true
  unfolding left_locally local_if
  left-former n e =
      openly-more (λ k. local_if program (counted program k) && leaving program k)
      (λ k. local_if program (former k) && holds_leave program former k)
      (λ k h.
      both_true (local_if program (former k)) (holds_leave program former k)
      (counted-former (local_if program) refl k (both_left (local_if program (counted program k)) (leaving program k) h))
      (leave-former k (both_right (local_if program (counted program k)) (leaving program k) h)))
      n e

  rule-former : (s : Statement) → (rule_of program former s).holds ≡ true → (rule_of program (counted program) s).holds ≡ true
  unfolding rule_of
  rule-former nothing h = refl
  rule-former (assign a b) h = h
  rule-former (sequence a b) h = refl
  rule-former (branch a b c) h =
      still_if (single program a) (effectful program b) (effectful program c) (effect program former b) (effect program former c)
      (effect-former b) (effect-former c) h
  rule-former (loop a b) h =
      still_while (single program a) (left_locally program (counted program) b) (left_locally program former b) (effectful program b)
      (effect program former b) (left-former b) (effect-former b) h
  rule-former (call p) h = refl
  rule-former (latch a b) h = refl
  rule-former (collective barrier) h = refl
  rule-former (collective (broadcast a b c)) h = h
  rule-former (collective (exchange a r)) h = refl
  rule-former leave h = refl

  rule-counted : (n : ℕ) → (rule_of program former (former n)).holds ≡ true
      → (rule_of program (counted program) (counted program n)).holds ≡ true
  unfolding rule_of
  rule-counted n h =
      ⊎_elim
      (λ (l : live program n ≡ true). rw (counted-live program n l) (rule-former (former n) h))
      (λ (l : live program n ≡ false). rw (counted-dead program n l) refl)
      (bool_cases (live program n))

pub still_accepted : StillAccepted
unfolding body_flagged
still_accepted table well e =
    let built = formed table well in
    let passed = judged-passed (decode table) (statement_at (decode table)) e in
    passed-judged (decode table) (counted (decode table))
    (record {
      rules = λ n l. rule-counted (decode table) built n (passed.rules n l);
      flags = λ p l.
          still_flagged (effectful (decode table) (body (decode table) p)) (effect (decode table) (statement_at (decode table)) (body (decode table) p)) (effect_flag (decode table) p)
          (effect-former (decode table) built (body (decode table) p)) (passed.flags p l);
    })
