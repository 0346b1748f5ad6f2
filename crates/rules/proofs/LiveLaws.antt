-- Laws of live nodes. A part of a live node is live unless it is a branch never taken; a node with a live part is live; a procedure's
-- body is live; and of a live if the branch that a process takes is live. A node counts as what it is where it is live, and else as
-- nothing, so what has an effect or holds a leave is live.
use mathlib.Core.Bool.{Bool, true, false, cond, not}
use mathlib.Core.List.{[], ◌∷◌}
use mathlib.Core.Logic.{inl, inr, ⊎_elim}
use mathlib.Core.Path.{◌≡◌, refl, sym, ◌∙◌, ap, subst}
use Prim.Native.Nat.{ℕ, ◌≤◌, ◌<◌}
use native.Mathlib.Omega.{arith}
use lib.Dec.{eqb}
use borrow.Author.Tests.{eq-eqb}
use Rattle.rules.specs.Evaluation.{Environment, value}
use Rattle.rules.specs.Judgement.{Fixing, fixed, unfixed, fixing, never_taken, dead_in, live, counted, effect_of, effect, holds_leave}
use Rattle.rules.specs.Table.{Program, procedures, nodes, body, expression_at, statement_at, is_leave}
use Rattle.rules.specs.Table.{Statement, nothing, assign, sequence, branch, loop, call, latch, collective, leave}
use Rattle.rules.specs.WellFormed.{statement_fits, expression_parts, statement_parts, parts_at, occurrences, in_tree}
use Rattle.rules.proofs.AnywhereLaws.{In, Above, stands_down, stands-above}
use Rattle.rules.proofs.ChoiceLaws.{bool_cases, all_true, all-at}
use Rattle.rules.proofs.FixedLaws.{fixed_value_in}
use Rattle.rules.proofs.Formed.{Formed}
use Rattle.rules.proofs.LoopLaws.{failing, by_open, open_part, counted_append, uses-counted, joined-one, named-below}
use Rattle.rules.proofs.LoopLaws.{one_name, part-no_body, statement-part, body-part}
use Rattle.rules.proofs.PartLaws.{part_low, tree_self}
use Rattle.rules.proofs.ValueLaws.{effect-here}

-- effects and leaves as the nodes count
abbrev pub effectful : Program → ℕ → Bool
effectful program = effect program (counted program)

abbrev pub leaving : Program → ℕ → Bool
leaving program = holds_leave program (counted program)

module _ (program : Program) (n : ℕ) where
  pub counted-live : live program n ≡ true → counted program n ≡ statement_at program n
  unfolding counted
  counted-live h = simp h

  pub counted-dead : live program n ≡ false → counted program n ≡ nothing
  unfolding counted
  counted-dead h = simp h

module _ (program : Program) (formed : Formed program) where
  abbrev pub Part : ℕ → ℕ → Type 0
  Part a n = In a (parts_at program n)

  abbrev InTree : ℕ → ℕ → Type 0
  InTree n m = in_tree program n m ≡ true

  -- a part stands where its node stands
  tree_down : (n a m : ℕ) → Part a n → InTree n m → InTree a m
  tree_down n a m i t = stands_down (parts_at program) n a m i (part_low program formed n a i) t

  tree_above : (a m : ℕ) → InTree a m → Above (parts_at program) a m
  tree_above a m t = stands-above (parts_at program) a m t

  -- d is the branch of node k that will never be taken
  pub record Never (k d : ℕ) : Type 0 where
    pub condition : ℕ
    pub first : ℕ
    pub second : ℕ
    pub held : ℕ
    pub is : statement_at program k ≡ branch condition first second
    pub decided : fixing program condition ≡ fixed held
    pub never : d ≡ cond (eqb held 0) first second

  pub branch-parts : (k a b c : ℕ) (test : Bool) → statement_at program k ≡ branch a b c → Part (cond test b c) k
  unfolding statement_parts
  branch-parts k a b c true s = statement-part program formed k b (rw s (inr (inl refl)))
  branch-parts k a b c false s = statement-part program formed k c (rw s (inr (inr (inl refl))))

  pub never-part : (k d : ℕ) → Never k d → Part d k
  never-part k d n =
      subst (λ x. Part x k) (sym n.never) (branch-parts k n.condition n.first n.second (eqb n.held 0) n.is)

  -- a node that is not live stands in such a branch

  never_in : (f : Fixing) (s t : Bool) → never_taken f s t ≡ true
      → (v : ℕ) × (f ≡ fixed v) × (cond (eqb v 0) s t ≡ true)
  unfolding never_taken
  never_in (fixed v) s t e = (v, refl, e)
  never_in unfixed s t e = let z : ◌≡◌ {A = ℕ} 0 1 = cc in absurd (omega arith)

  picked_tree : (n b c : ℕ) (test : Bool) → cond test (in_tree program n b) (in_tree program n c) ≡ true → InTree n (cond test b c)
  picked_tree n b c true e = e
  picked_tree n b c false e = e

  tree_picked : (n b c : ℕ) (test : Bool) → InTree n (cond test b c) → cond test (in_tree program n b) (in_tree program n c) ≡ true
  tree_picked n b c true e = e
  tree_picked n b c false e = e

  dead-found : (n k : ℕ) (s : Statement) → statement_at program k ≡ s → dead_in program n s ≡ true
      → (d : ℕ) × Never k d × InTree n d
  unfolding dead_in
  dead-found n k nothing s e = let z : ◌≡◌ {A = ℕ} 0 1 = cc in absurd (omega arith)
  dead-found n k (assign a b) s e = let z : ◌≡◌ {A = ℕ} 0 1 = cc in absurd (omega arith)
  dead-found n k (sequence a b) s e = let z : ◌≡◌ {A = ℕ} 0 1 = cc in absurd (omega arith)
  dead-found n k (branch a b c) s e =
      let (v, f, t) = never_in (fixing program a) (in_tree program n b) (in_tree program n c) e in (
        cond (eqb v 0) b c,
        record { condition = a; first = b; second = c; held = v; is = s; decided = f; never = refl },
        picked_tree n b c (eqb v 0) t,
      )
  dead-found n k (loop a b) s e = let z : ◌≡◌ {A = ℕ} 0 1 = cc in absurd (omega arith)
  dead-found n k (call p) s e = let z : ◌≡◌ {A = ℕ} 0 1 = cc in absurd (omega arith)
  dead-found n k (latch a b) s e = let z : ◌≡◌ {A = ℕ} 0 1 = cc in absurd (omega arith)
  dead-found n k (collective c) s e = let z : ◌≡◌ {A = ℕ} 0 1 = cc in absurd (omega arith)
  dead-found n k leave s e = let z : ◌≡◌ {A = ℕ} 0 1 = cc in absurd (omega arith)

  dead-at : (n k d : ℕ) → Never k d → InTree n d → dead_in program n (statement_at program k) ≡ true
  unfolding dead_in never_taken
  dead-at n k d never t =
      rw (never.is, never.decided)
      (tree_picked n never.first never.second (eqb never.held 0) (subst (InTree n) never.never t))

  pub live-not : (n k d : ℕ) → live program n ≡ true → Never k d → InTree n d → ⊥
  unfolding live
  live-not n k d h never t =
      let passed =
      all-at (λ m. not (dead_in program n (statement_at program m))) (nodes program) h k
      (named-below program formed k d (never-part k d never)) in
      let dead = dead-at n k d never t in
      let z : ◌≡◌ {A = ℕ} 0 1 = cc in
      omega arith

  pub live-by : (n : ℕ) → ((k d : ℕ) → Never k d → InTree n d → ⊥) → live program n ≡ true
  unfolding live
  live-by n none =
      all_true (λ m. not (dead_in program n (statement_at program m))) (nodes program)
      (λ m l.
      failing (dead_in program n (statement_at program m))
      (λ e. let (d, never, t) = dead-found n m (statement_at program m) refl e in none m d never t))

  -- no branch never taken is live
  pub never-live : (k d : ℕ) → Never k d → live program d ≡ true → ⊥
  never-live k d never h = live-not d k d h never (tree_self program d)

  -- up and down

  pub live-up : (n a : ℕ) → Part a n → live program a ≡ true → live program n ≡ true
  live-up n a i h = live-by n (λ k d never t. live-not a k d h never (tree_down n a d i t))

  pub live-part : (n a : ℕ) → Part a n → (Never n a → ⊥) → live program n ≡ true → live program a ≡ true
  live-part n a i other h =
      live-by a
      (λ k d never t.
      ⊎_elim
      (λ (e : a ≡ d).
      let same : k ≡ n = one_name program formed k n a (subst (λ x. Part x k) (sym e) (never-part k d never)) i in
      other (subst (λ x. Never x a) same (subst (Never k) (sym e) never)))
      (λ (found : (m : ℕ) × Part a m × InTree m d).
      let (m, j, q) = found in
      let same : m ≡ n = one_name program formed m n a j i in
      live-not n k d h never (subst (λ x. InTree x d) same q))
      (tree_above a d t))

  pub live-body : (p : ℕ) → p < procedures program → live program (body program p) ≡ true
  live-body p l =
      live-by (body program p)
      (λ k d never t.
      ⊎_elim
      (λ (e : body program p ≡ d).
      part-no_body program formed k p l (subst (λ x. Part x k) (sym e) (never-part k d never)))
      (λ (found : (m : ℕ) × Part (body program p) m × InTree m d). part-no_body program formed found.0 p l found.1)
      (tree_above (body program p) d t))

  -- parts of a statement that is no if
  pub live-other : (n a : ℕ) → Part a n → ((x y z : ℕ) → statement_at program n ≡ branch x y z → ⊥) → live program n ≡ true
      → live program a ≡ true
  live-other n a i plain h =
      live-part n a i (λ never. plain never.condition never.first never.second never.is) h

  pub live-sequence : (n a b : ℕ) → statement_at program n ≡ sequence a b → live program n ≡ true
      → (live program a ≡ true) × (live program b ≡ true)
  unfolding statement_parts
  live-sequence n a b s h =
      let plain : (x y z : ℕ) → statement_at program n ≡ branch x y z → ⊥ =
      λ x y z e. let w : ◌≡◌ {A = ℕ} 0 1 = cc in omega arith in (
        live-other n a (statement-part program formed n a (rw s (inl refl))) plain h,
        live-other n b (statement-part program formed n b (rw s (inr (inl refl)))) plain h,
      )

  pub live-repeated : (n a b : ℕ) → statement_at program n ≡ loop a b → live program n ≡ true → live program b ≡ true
  live-repeated n a b s h =
      live-other n b (body-part program formed n a b s) (λ x y z e. let w : ◌≡◌ {A = ℕ} 0 1 = cc in omega arith) h

  -- the branches of an if are two
  twice : (x a b c : ℕ) → x ≡ b → x ≡ c → 2 ≤ occurrences x (a ∷ b ∷ c ∷ [])
  unfolding occurrences
  twice x a b c e f = rw (eq-eqb b x (sym e), eq-eqb c x (sym f)) (omega arith)

  pub branches_differ : (n a b c : ℕ) → statement_at program n ≡ branch a b c → b ≡ c → ⊥
  unfolding statement_parts parts_at
  branches_differ n a b c s e =
      let part : Part b n = statement-part program formed n b (rw s (inr (inl refl))) in
      let l = named-below program formed n b part in
      let low = part_low program formed n b part in
      let once = formed.used-once b (omega arith) in
      let here = counted_append (expression_parts (expression_at program n)) (statement_parts (statement_at program n)) b in
      let two : 2 ≤ occurrences b (statement_parts (statement_at program n)) = rw s (twice b a b c refl e) in
      omega (arith, uses-counted program b, joined-one (parts_at program) b (nodes program) n l)

  -- the branch that a process takes
  module _ (n a b c : ℕ) (env : Environment) (s : statement_at program n ≡ branch a b c) (h : live program n ≡ true) where
    other-branch : (d : ℕ) (test : Bool) → eqb (value program env a) 0 ≡ test → Never n d → d ≡ cond test b c
    other-branch d test e never =
        let same : branch a b c ≡ branch never.condition never.first never.second = sym s ∙ never.is in
        let condition : a ≡ never.condition = cc in
        let first : b ≡ never.first = cc in
        let second : c ≡ never.second = cc in
        let value-is : value program env a ≡ never.held =
        fixed_value_in program formed env a never.held (ap (fixing program) condition ∙ never.decided) in
        never.never
        ∙ (ap (λ t. cond t never.first never.second) (ap (λ x. eqb x 0) (sym value-is) ∙ e)
        ∙ (ap (λ x. cond test x never.second) (sym first) ∙ ap (λ x. cond test b x) (sym second)))

    by-test : (test : Bool) → eqb (value program env a) 0 ≡ test → live program (cond test c b) ≡ true
    by-test true e =
        live-part n c (branch-parts n a b c false s) (λ never. branches_differ n a b c s (sym (other-branch c true e never))) h
    by-test false e =
        live-part n b (branch-parts n a b c true s) (λ never. branches_differ n a b c s (other-branch b false e never)) h

    pub live-taken : live program (cond (eqb (value program env a) 0) c b) ≡ true
    live-taken = by-test (eqb (value program env a) 0) refl

  -- what counts

  pub effect-live : (n : ℕ) → live program n ≡ true → effectful program n ≡ effect_of program (effectful program) (statement_at program n)
  effect-live n h =
      let same = counted-live program n h in
      effect-here program n (counted program) (rw same (formed.statement-fits n)) ∙ ap (effect_of program (effectful program)) same

  pub effect-dead : (n : ℕ) → live program n ≡ false → effectful program n ≡ false
  unfolding statement_fits effect_of
  effect-dead n h =
      let same = counted-dead program n h in
      effect-here program n (counted program) (rw same) ∙ ap (effect_of program (effectful program)) same

  -- a node with an effect or a leave is live

  pub effect-alive : (n : ℕ) → effectful program n ≡ true → live program n ≡ true
  effect-alive n e =
      ⊎_elim
      (λ (h : live program n ≡ true). h)
      (λ (h : live program n ≡ false).
      let none = effect-dead n h in
      let z : ◌≡◌ {A = ℕ} 0 1 = cc in
      absurd (omega arith))
      (bool_cases (live program n))

  pub leave-alive : (n : ℕ) → leaving program n ≡ true → live program n ≡ true
  unfolding holds_leave
  leave-alive n e =
      by_open program formed (λ k. is_leave (counted program k)) (λ k. live program k ≡ true) here
      (λ k a i h. live-up k a (open_part program formed k a i) h) n e
    where
      here : (k : ℕ) → is_leave (counted program k) ≡ true → live program k ≡ true
      here k h =
          ⊎_elim
          (λ (l : live program k ≡ true). l)
          (λ (l : live program k ≡ false).
          let none = ap is_leave (counted-dead program k l) in
          let z : ◌≡◌ {A = ℕ} 0 1 = cc in
          absurd (omega arith))
          (bool_cases (live program k))
