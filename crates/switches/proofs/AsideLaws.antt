-- The way down: what is marked at a node, and that in the end the marks are the statements of dead branches. A node is named once, so
-- once all nodes above it are passed it is known whether it is marked.
use mathlib.Core.Bool.{Bool, true, false, cond}
use mathlib.Core.List.{List, [], ◌∷◌}
use mathlib.Core.Logic.{◌⊎◌, inl, inr, ⊎_elim}
use mathlib.Core.Path.{◌≡◌, refl, sym, ◌∙◌, ap, subst, fun_ext}
use Prim.Native.Nat.{ℕ, ◌+◌, ◌≤◌, ◌<◌}
use native.Mathlib.Decide.{dec_lt}
use native.Mathlib.Omega.{arith}
use lib.Dec.{ltb, eqb}
use lib.ListN.{length, replicate, length-replicate}
use borrow.Author.Tests.{ltb-true, lt-ltb}
use Rattle.rules.specs.Judgement.{Fixing, fixed, unfixed, fixing, live, counted}
use Rattle.rules.specs.Table.{Program, procedures, nodes, body, statement_at}
use Rattle.rules.specs.Table.{Statement, nothing, assign, sequence, branch, loop, call, latch, collective, leave}
use Rattle.rules.specs.WellFormed.{is_expression, is_statement, parts_at, open_parts, occurrences}
use Rattle.rules.proofs.ChoiceLaws.{bool_cases}
use Rattle.rules.proofs.Formed.{Formed, statement-past}
use Rattle.rules.proofs.HomeLaws.{sequence-statements, branch-statements, loop-statement}
use Rattle.rules.proofs.LeaveLaws.{counted_in, expression-nothing, user, part-sorted}
use Rattle.rules.proofs.LiveLaws.{Never, never-live, live-up, live-part, live-body, branch-parts, branches_differ}
use Rattle.rules.proofs.LiveLaws.{live-sequence, live-repeated, counted-live, counted-dead}
use Rattle.rules.proofs.AnywhereLaws.{In, either_cases}
use Rattle.rules.proofs.LoopLaws.{in_counted, open_part, body-part, named-below}
use Rattle.rules.proofs.PartLaws.{part_low}
use Rattle.rules.proofs.AnywhereLaws.{either-right}
use Rattle.rules.proofs.VisibleLaws.{contrary}
use Rattle.table.specs.Marks.{bit_at, with_bits}
use Rattle.table.proofs.BitLaws.{bit-zero}
use Rattle.table.proofs.UseLaws.{length-with_bits, bits_at}
use Rattle.visit.specs.Fields.{plane_words}
use Rattle.switches.specs.Aside.{inner_parts, never_of, never_parts, aside_marks, Aside}

pub each-counted : (program : Program) (k : ℕ) → (counted program k ≡ statement_at program k) ⊎ (counted program k ≡ nothing)
each-counted program k =
    ⊎_elim (λ (e : live program k ≡ true). inl (counted-live program k e)) (λ (e : live program k ≡ false). inr (counted-dead program k e))
    (bool_cases (live program k))

-- marks of a list
module _ (marks list : List ℕ) (size : length marks ≡ plane_words) (k : ℕ) (low : k < 256) where
  marked_cases : bit_at (with_bits marks list) k ≡ true → (bit_at marks k ≡ true) ⊎ In k list
  marked_cases e =
      ⊎_elim
      (λ (h : bit_at marks k ≡ true). inl h)
      (λ (h : ltb 0 (occurrences k list) ≡ true). inr (counted_in list k (omega (arith, ltb-true 0 (occurrences k list) h))))
      (either_cases (bit_at marks k) (ltb 0 (occurrences k list)) (sym (bits_at marks list k (omega arith)) ∙ e))

  marked_old : bit_at marks k ≡ true → bit_at (with_bits marks list) k ≡ true
  marked_old e = bits_at marks list k (omega arith) ∙ rw e

  marked-new : In k list → bit_at (with_bits marks list) k ≡ true
  marked-new i =
      bits_at marks list k (omega arith)
      ∙ either-right (bit_at marks k) (ltb 0 (occurrences k list)) (lt-ltb 0 (occurrences k list) (omega (arith, in_counted list k i)))

-- the parts that are statements stand in the same while or are a while's body
inner_cases : (s : Statement) (a : ℕ) → In a (inner_parts s) → In a (open_parts s) ⊎ ((c : ℕ) × (s ≡ loop c a))
unfolding inner_parts open_parts
inner_cases nothing a i = absurd i
inner_cases (assign b c) a i = absurd i
inner_cases (sequence b c) a i = inl i
inner_cases (branch b c d) a i = inl i
inner_cases (loop b c) a (inl e) = inr (b, ap (loop b) (sym e))
inner_cases (loop b c) a (inr i) = absurd i
inner_cases (call p) a i = absurd i
inner_cases (latch b c) a i = absurd i
inner_cases (collective k) a i = absurd i
inner_cases leave a i = absurd i

open_inner : (s : Statement) (a : ℕ) → In a (open_parts s) → In a (inner_parts s)
unfolding inner_parts open_parts
open_inner nothing a i = absurd i
open_inner (assign b c) a i = absurd i
open_inner (sequence b c) a i = i
open_inner (branch b c d) a i = i
open_inner (loop b c) a i = absurd i
open_inner (call p) a i = absurd i
open_inner (latch b c) a i = absurd i
open_inner (collective k) a i = absurd i
open_inner leave a i = absurd i

module _ (program : Program) (formed : Formed program) where
  inner-part : (n a : ℕ) → In a (inner_parts (statement_at program n)) → In a (parts_at program n)
  inner-part n a i =
      ⊎_elim
      (λ (h : In a (open_parts (statement_at program n))). open_part program formed n a h)
      (λ (h : (c : ℕ) × (statement_at program n ≡ loop c a)). body-part program formed n h.0 a h.1)
      (inner_cases (statement_at program n) a i)

  inner-statement : (n a : ℕ) (s : Statement) → statement_at program n ≡ s → In a (inner_parts s) → is_statement program a ≡ true
  unfolding inner_parts
  inner-statement n a nothing s i = absurd i
  inner-statement n a (assign b c) s i = absurd i
  inner-statement n a (sequence b c) s (inl e) = rw e (sequence-statements program formed n b c s).0
  inner-statement n a (sequence b c) s (inr (inl e)) = rw e (sequence-statements program formed n b c s).1
  inner-statement n a (sequence b c) s (inr (inr i)) = absurd i
  inner-statement n a (branch b c d) s (inl e) = rw e (branch-statements program formed n b c d s).0
  inner-statement n a (branch b c d) s (inr (inl e)) = rw e (branch-statements program formed n b c d s).1
  inner-statement n a (branch b c d) s (inr (inr i)) = absurd i
  inner-statement n a (loop b c) s (inl e) = rw e (loop-statement program formed n b c s)
  inner-statement n a (loop b c) s (inr i) = absurd i
  inner-statement n a (call p) s i = absurd i
  inner-statement n a (latch b c) s i = absurd i
  inner-statement n a (collective k) s i = absurd i
  inner-statement n a leave s i = absurd i

  -- a statement with such a part is not nothing
  inner-some : (n a : ℕ) → In a (inner_parts (statement_at program n)) → statement_at program n ≡ nothing → ⊥
  unfolding inner_parts
  inner-some n a i e = subst (λ s. In a (inner_parts s)) e i

  -- a statement that is named is such a part
  named-inner : (m a : ℕ) → In a (parts_at program m) → (is_expression program a ≡ true) ⊎ In a (inner_parts (statement_at program m))
  unfolding inner_parts
  named-inner m a i =
      ⊎_elim
      (λ (e : is_expression program a ≡ true). inl e)
      (λ (h : In a (open_parts (statement_at program m)) ⊎ ((c : ℕ) × (statement_at program m ≡ loop c a))).
      inr
      (⊎_elim
      (λ (o : In a (open_parts (statement_at program m))). open_inner (statement_at program m) a o)
      (λ (l : (c : ℕ) × (statement_at program m ≡ loop c a)). rw l.1 (inl refl))
      h))
      (part-sorted program formed m a i)

  dead-up : (n a : ℕ) → In a (parts_at program n) → live program n ≡ false → live program a ≡ false
  dead-up n a i h =
      ⊎_elim
      (λ (e : live program a ≡ true). absurd (contrary (live program n) (live-up program formed n a i e) h))
      (λ (e : live program a ≡ false). e)
      (bool_cases (live program a))

  -- the branch that will never be taken is dead
  module _ (n a b c : ℕ) (s : statement_at program n ≡ branch a b c) where
    never-at : (v d : ℕ) → fixing program a ≡ fixed v → d ≡ cond (eqb v 0) b c → Never program formed n d
    never-at v d f e = record { condition = a; first = b; second = c; held = v; is = s; decided = f; never = e }

    pick-inner : (v : ℕ) (test : Bool) → In (cond test b c) (b ∷ c ∷ [])
    pick-inner v true = inl refl
    pick-inner v false = inr (inl refl)

    never-dead : (f : Fixing) → fixing program a ≡ f → (k : ℕ) → In k (never_of f b c)
        → In k (b ∷ c ∷ []) × (live program k ≡ false)
    never-dead (fixed v) f k (inl e) = (
      rw e (pick-inner v (eqb v 0)),
      ⊎_elim
          (λ (h : live program k ≡ true). absurd (never-live program formed n k (never-at v k f e) h))
          (λ (h : live program k ≡ false). h)
          (bool_cases (live program k)),
    )
    never-dead (fixed v) f k (inr i) = absurd i
    never-dead unfixed f k i = absurd i

    -- and of a live if no other
    same_if : (k : ℕ) (never : Never program formed n k) → (fixing program a ≡ fixed never.held) × (k ≡ cond (eqb never.held 0) b c)
    same_if k never =
        let same : branch a b c ≡ branch never.condition never.first never.second = sym s ∙ never.is in
        let condition : a ≡ never.condition = cc in
        let first : b ≡ never.first = cc in
        let second : c ≡ never.second = cc in
        (ap (fixing program) condition ∙ never.decided, rw (first, second) never.never)

    alive-by : (k : ℕ) → In k (parts_at program n) → live program n ≡ true → live program k ≡ false → (Never program formed n k → ⊥) → ⊥
    alive-by k i alive dead other = contrary (live program k) (live-part program formed n k i other alive) dead

    other-taken : (v : ℕ) (test : Bool) → eqb v 0 ≡ test → fixing program a ≡ fixed v → (k : ℕ) → In k (b ∷ c ∷ []) → live program n ≡ true
        → live program k ≡ false → k ≡ cond test b c
    other-taken v true t f k (inl e) alive dead = e
    other-taken v true t f k (inr (inl e)) alive dead =
        absurd
        (alive-by k (rw e (branch-parts program formed n a b c false s)) alive dead
        (λ never. branches_differ program formed n a b c s (sym (sym e ∙ ((same_if k never).1 ∙ chosen never)))))
      where
        chosen : (never : Never program formed n k) → cond (eqb never.held 0) b c ≡ b
        chosen never = let w : v ≡ never.held = cc (same_if k never).0 in rw (← w, t) refl
    other-taken v true t f k (inr (inr i)) alive dead = absurd i
    other-taken v false t f k (inl e) alive dead =
        absurd
        (alive-by k (rw e (branch-parts program formed n a b c true s)) alive dead
        (λ never. branches_differ program formed n a b c s (sym e ∙ ((same_if k never).1 ∙ chosen never))))
      where
        chosen : (never : Never program formed n k) → cond (eqb never.held 0) b c ≡ c
        chosen never = let w : v ≡ never.held = cc (same_if k never).0 in rw (← w, t) refl
    other-taken v false t f k (inr (inl e)) alive dead = e
    other-taken v false t f k (inr (inr i)) alive dead = absurd i

    dead-branch : (f : Fixing) → fixing program a ≡ f → (k : ℕ) → In k (b ∷ c ∷ []) → live program n ≡ true → live program k ≡ false
        → In k (never_of f b c)
    dead-branch (fixed v) f k i alive dead = inl (other-taken v (eqb v 0) refl f k i alive dead)
    dead-branch unfixed f k i alive dead =
        absurd
        (alive-by k (part i) alive dead
        (λ never.
        let decided : unfixed ≡ fixed never.held = sym f ∙ (same_if k never).0 in
        let z : ◌≡◌ {A = ℕ} 0 1 = cc in
        omega arith))
      where
        part : In k (b ∷ c ∷ []) → In k (parts_at program n)
        part (inl e) = rw e (branch-parts program formed n a b c true s)
        part (inr (inl e)) = rw e (branch-parts program formed n a b c false s)
        part (inr (inr j)) = absurd j

-- the marks once the nodes from n on are passed: statements of dead branches, and of the parts of these nodes all such
pub record AsideTo (program : Program) (n : ℕ) (marks : List ℕ) : Type 0 where
  pub size : length marks ≡ plane_words
  pub dead : (k : ℕ) → k < 256 → bit_at marks k ≡ true → (is_statement program k ≡ true) × (live program k ≡ false)
  pub done : (m k : ℕ) → n ≤ m → In k (inner_parts (statement_at program m)) → live program k ≡ false → bit_at marks k ≡ true

module _ (program : Program) (formed : Formed program) where
  pub aside_none : AsideTo program (nodes program) (replicate plane_words 0)
  aside_none =
      record {
        size = length-replicate {A = ℕ} plane_words 0;
        dead = λ k l e. absurd (contrary (bit_at (replicate plane_words 0) k) e (bit-zero plane_words k));
        done = λ m k l i dead. absurd (inner-some program formed m k i (statement-past program formed m l));
      }

  -- a dead statement whose user is passed is marked
  module _ (n : ℕ) (marks : List ℕ) (so_far : AsideTo program (n + 1) marks) where
    settled : (k : ℕ) → n ≤ k → k < nodes program → live program k ≡ false → bit_at marks k ≡ false → is_expression program k ≡ true
    settled k from low dead free =
        ⊎_elim
        (λ (found : (m : ℕ) × In k (parts_at program m)).
        ⊎_elim
        (λ (e : is_expression program k ≡ true). e)
        (λ (i : In k (inner_parts (statement_at program found.0))).
        absurd
        (contrary (bit_at marks k)
        (so_far.done found.0 k (omega (arith, part_low program formed found.0 k found.1)) i dead) free))
        (named-inner program formed found.0 k found.1))
        (λ (found : (p : ℕ) × (p < procedures program) × (k ≡ body program p)).
        absurd (contrary (live program k) (rw found.2 (live-body program formed found.0 found.1)) dead))
        (user program formed k low)

    -- so one that is not marked and has statements as parts is live
    live_here : n < nodes program → (k : ℕ) → In k (inner_parts (statement_at program n)) → bit_at marks n ≡ false → live program n ≡ true
    live_here low k i free =
        ⊎_elim
        (λ (e : live program n ≡ true). e)
        (λ (e : live program n ≡ false).
        absurd (inner-some program formed n k i (expression-nothing program n (settled n (omega arith) low e free))))
        (bool_cases (live program n))

  -- what is marked at a node
  abbrev list : ℕ → Bool → List ℕ
  list n dead = cond dead (inner_parts (statement_at program n)) (never_parts program (statement_at program n))

  never-list : (n k : ℕ) (s : Statement) → statement_at program n ≡ s → In k (never_parts program s)
      → In k (inner_parts s) × (live program k ≡ false)
  unfolding never_parts inner_parts
  never-list n k nothing s i = absurd i
  never-list n k (assign a b) s i = absurd i
  never-list n k (sequence a b) s i = absurd i
  never-list n k (branch a b c) s i = never-dead program formed n a b c s (fixing program a) refl k i
  never-list n k (loop a b) s i = absurd i
  never-list n k (call p) s i = absurd i
  never-list n k (latch a b) s i = absurd i
  never-list n k (collective c) s i = absurd i
  never-list n k leave s i = absurd i

  -- of a live node nothing else is dead
  dead-list : (n k : ℕ) (s : Statement) → statement_at program n ≡ s → live program n ≡ true → live program k ≡ false → In k (inner_parts s)
      → In k (never_parts program s)
  unfolding never_parts inner_parts
  dead-list n k nothing s alive dead i = absurd i
  dead-list n k (assign a b) s alive dead i = absurd i
  dead-list n k (sequence a b) s alive dead i =
      let (first, second) = live-sequence program formed n a b s alive in
      absurd
      (⊎_elim
      (λ (e : k ≡ a). contrary (live program k) (rw e first) dead)
      (λ (h : (k ≡ b) ⊎ ⊥).
      ⊎_elim (λ (e : k ≡ b). contrary (live program k) (rw e second) dead) (λ (z : ⊥). z) h)
      i)
  dead-list n k (branch a b c) s alive dead i = dead-branch program formed n a b c s (fixing program a) refl k i alive dead
  dead-list n k (loop a b) s alive dead i =
      absurd
      (⊎_elim
      (λ (e : k ≡ b). contrary (live program k) (rw e (live-repeated program formed n a b s alive)) dead) (λ (z : ⊥). z) i)
  dead-list n k (call p) s alive dead i = absurd i
  dead-list n k (latch a b) s alive dead i = absurd i
  dead-list n k (collective c) s alive dead i = absurd i
  dead-list n k leave s alive dead i = absurd i

  pub aside-more : (n : ℕ) (marks : List ℕ) → n < nodes program → AsideTo program (n + 1) marks → AsideTo program n (aside_marks program n marks)
  unfolding aside_marks
  aside-more n marks low so_far =
      ⊎_elim
      (λ (e : bit_at marks n ≡ true).
      let dead = (so_far.dead n (omega (arith, formed.nodes-high)) e).1 in
      simp e
      (with_list (inner_parts (statement_at program n))
      (λ k i. (i, dead-up program formed n k (inner-part program formed n k i) dead)) (λ k i h. i)))
      (λ (e : bit_at marks n ≡ false).
      simp e
      (with_list (never_parts program (statement_at program n)) (λ k i. never-list n k (statement_at program n) refl i)
      (λ k i h. dead-list n k (statement_at program n) refl (live_here n marks so_far low k i e) h i)))
      (bool_cases (bit_at marks n))
    where
      with_list : (marked : List ℕ)
          → ((k : ℕ) → In k marked → In k (inner_parts (statement_at program n)) × (live program k ≡ false))
          → ((k : ℕ) → In k (inner_parts (statement_at program n)) → live program k ≡ false → In k marked)
          → AsideTo program n (with_bits marks marked)
      with_list marked sound whole =
          record {
            size = length-with_bits marks marked ∙ so_far.size;
            dead = λ k l e.
                ⊎_elim
                (λ (h : bit_at marks k ≡ true). so_far.dead k l h)
                (λ (i : In k marked).
                (inner-statement program formed n k (statement_at program n) refl (sound k i).0, (sound k i).1))
                (marked_cases marks marked so_far.size k l e);
            done = λ m k l i dead.
                let few : k < 256 =
                omega (
                  arith,
                  part_low program formed m k (inner-part program formed m k i),
                  named-below program formed m k (inner-part program formed m k i),
                  formed.nodes-high,
                ) in
                elim (dec_lt n m) [
                  | yes above ↦ marked_old marks marked so_far.size k few (so_far.done m k (omega arith) i dead)
                  | no here ↦
                      let same : m ≡ n = omega arith in
                      marked-new marks marked so_far.size k few (whole k (rw same at i) dead)
                ];
          }

  pub aside-all : (marks : List ℕ) → AsideTo program 0 marks → Aside program marks
  aside-all marks all =
      record {
        size = all.size;
        dead = all.dead;
        counts = λ k low free.
            ⊎_elim
            (λ (e : live program k ≡ true). counted-live program k e)
            (λ (e : live program k ≡ false).
            counted-dead program k e
            ∙ sym (expression-nothing program k (settled-all k low e free)))
            (bool_cases (live program k));
      }
    where
      settled-all : (k : ℕ) → k < nodes program → live program k ≡ false → bit_at marks k ≡ false → is_expression program k ≡ true
      settled-all k low dead free =
          settled 0 marks (record { size = all.size; dead = all.dead; done = λ m j l i d. all.done m j (omega arith) i d }) k (omega arith) low
          dead free

-- where nothing is marked every node counts as what it is
pub none-aside : (program : Program) → Formed program → (marks : List ℕ) → Aside program marks → ((k : ℕ) → k < 256 → bit_at marks k ≡ false)
    → counted program ≡ statement_at program
none-aside program formed marks aside clear =
    fun_ext
    (λ k.
    elim (dec_lt k (nodes program)) [
      | yes l ↦ aside.counts k l (clear k (omega (arith, formed.nodes-high)))
      | no h ↦
          let past = statement-past program formed k (omega arith) in
          ⊎_elim (λ (e : counted program k ≡ statement_at program k). e) (λ (e : counted program k ≡ nothing). e ∙ sym past) (each-counted program k)
    ])
