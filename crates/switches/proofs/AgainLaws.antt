-- The second time over the nodes: a statement set aside has no fact, no rule and no leave; a stretch of other nodes is visited and passed
-- as the first time. No node is stuck, since nothing fails at it and its parts are used by no other node.
use mathlib.Core.Bool.{Bool, true, false, cond, not, ◌&&◌, ◌||◌}
use mathlib.Core.List.{List, [], ◌∷◌}
use mathlib.Core.Logic.{inl, inr, ⊎_elim}
use mathlib.Core.Path.{◌≡◌, refl, sym, ◌∙◌, ap}
use Prim.Native.Nat.{ℕ, zero, suc, ◌+◌, ◌≤◌, ◌<◌}
use native.Mathlib.Decide.{dec_lt}
use native.Mathlib.Omega.{arith}
use lib.Dec.{eqb}
use lib.ListN.{replicate}
use borrow.Author.Tests.{eq-eqb}
use Rattle.leaves.specs.Leaves.{left_plane, left_code, PassedTo}
use Rattle.rules.specs.Acceptance.{rule_of}
use Rattle.rules.specs.Judgement.{single, live, counted, holds_leave, local_if, left_locally}
use Rattle.rules.specs.Table.{Program, decode, procedures, nodes, body, node_at, statement_at, is_leave, nothing}
use Rattle.rules.specs.WellFormed.{is_statement, kind_known, unnamed_zero, node_fits, parts_at, joined, uses, occurrences}
use Rattle.rules.proofs.AnswerLaws.{both_right}
use Rattle.rules.proofs.ChoiceLaws.{bool_cases}
use Rattle.rules.proofs.Formed.{Formed}
use Rattle.rules.proofs.LeaveLaws.{counted_in}
use Rattle.rules.proofs.LiveLaws.{counted-dead, effect-dead, leave-alive, live-up}
use Rattle.rules.proofs.AnywhereLaws.{In}
use Rattle.rules.proofs.LoopLaws.{in_counted, counted_append, joined-one, named-below, one_name, open_part, by_open}
use Rattle.rules.proofs.PartLaws.{part_low}
use Rattle.rules.proofs.VisibleLaws.{denied, contrary}
use Rattle.sweep.specs.declared.Reached.{Reached}
use Rattle.sweep.specs.Asked.{Filled}
use Rattle.sweep.specs.Nodes.{Quickly}
use Rattle.sweep.proofs.FormedLaws.{zero_fields, fits}
use Rattle.sweep.proofs.NodeLaws.{ruled-none}
use Rattle.table.specs.Marks.{bit_at, with_bit}
use Rattle.table.proofs.BitLaws.{bit-other, bit-zero}
use Rattle.visit.specs.Exact.{noted_code, repeated_code, node_best}
use Rattle.visit.specs.Facts.{Reading, fact, rule_code, guard_code}
use Rattle.visit.specs.Fields.{used_plane, facts_plane, leaves_plane, all_planes}
use Rattle.visit.specs.Least.{none, failure}
use Rattle.visit.proofs.FactLaws.{plane_more, fact-statement}
use Rattle.visit.proofs.LeastLaws.{least_more, least-high}
use Rattle.switches.specs.Again.{Stretch, AllMarked, Beside, VisitedTo}
use Rattle.switches.specs.Aside.{aside_plane}
use Rattle.switches.proofs.AsideLaws.{each-counted}

-- nothing fails at a node by itself
pub record Clean (table : List ℕ) (k : ℕ) : Type 0 where
  pub known : kind_known (decode table) k ≡ true
  pub zero : unnamed_zero (node_at (decode table) k) ≡ true
  pub fits : node_fits (decode table) k ≡ true

pub clean-nodes : {table : List ℕ} → Formed (decode table) → Filled table → (k : ℕ) → k < nodes (decode table) → Clean table k
clean-nodes formed filled k low =
    record { known = formed.known k low; zero = zero_fields filled k low; fits = (fits filled).fits k low }

-- parts that are neither marked nor named twice
fresh-code : (marks list : List ℕ) (best : ℕ) → ((k : ℕ) → In k list → bit_at marks k ≡ false) → ((k : ℕ) → occurrences k list ≤ 1)
    → repeated_code marks best list ≡ best
unfolding repeated_code noted_code occurrences
fresh-code marks [] best free once = refl
fresh-code marks (n ∷ list) best free once =
    simp (free n (inl refl))
    (fresh-code (with_bit marks n) list best
    (λ k i. bit-other marks n k (other k i) ∙ free k (inr i)) (λ k. omega (arith, once k)))
  where
    other : (k : ℕ) → In k list → k ≡ n → ⊥
    other k i e =
        let here : ◌≡◌ {A = ℕ} (cond (eqb n k) 1 0) 1 = simp (eq-eqb n k (sym e)) in
        omega (arith, once k, in_counted list k i)

module _ (table : List ℕ) (formed : Formed (decode table)) where
  -- a part is used once
  part-once : (n k : ℕ) → occurrences k (parts_at (decode table) n) ≤ 1
  unfolding uses
  part-once n k =
      elim (dec_lt 0 (occurrences k (parts_at (decode table) n))) [
        | no few ↦ omega arith
        | yes some ↦
            let i : In k (parts_at (decode table) n) = counted_in (parts_at (decode table) n) k (omega arith) in
            let l = named-below (decode table) formed n k i in
            let once = formed.used-once k (omega (arith, part_low (decode table) formed n k i)) in
            let split = counted_append (joined (parts_at (decode table)) (nodes (decode table))) (joined (λ p. body (decode table) p ∷ []) (procedures (decode table))) k in
            omega (arith, joined-one (parts_at (decode table)) k (nodes (decode table)) n l)
      ]

  -- a node with a statement that is left locally holds a leave that counts
  left-alive : (n : ℕ) → left_locally (decode table) (counted (decode table)) n ≡ true → live (decode table) n ≡ true
  unfolding left_locally
  left-alive n e =
      by_open (decode table) formed (λ k. local_if (decode table) (counted (decode table) k) && holds_leave (decode table) (counted (decode table)) k) (λ k. live (decode table) k ≡ true)
      (λ k h. leave-alive (decode table) formed k (both_right (local_if (decode table) (counted (decode table) k)) (holds_leave (decode table) (counted (decode table)) k) h))
      (λ k a i h. live-up (decode table) formed k a (open_part (decode table) formed k a i) h) n e

  -- a statement that is set aside
  module _ (n : ℕ) (few : n < 256) (sort : is_statement (decode table) n ≡ true) (dead : live (decode table) n ≡ false) where
    dead-fact : fact (decode table) (counted (decode table)) n ≡ false
    dead-fact = fact-statement (decode table) (counted (decode table)) n sort ∙ effect-dead (decode table) formed n dead

    either-none : (q : ℕ) (s : Bool) → failure q n (s || true) ≡ none
    either-none q true = refl
    either-none q false = refl

    dead-guard : guard_code (decode table) (counted (decode table)) n ≡ none
    unfolding guard_code rule_code rule_of
    dead-guard =
        let quiet = effect-dead (decode table) formed n dead in
        ⊎_elim
        (λ (e : eqb (node_at (decode table) n).kind 20 ≡ true). simp (e, quiet) (either-none 16 (single (decode table) (node_at (decode table) n).a)))
        (λ (e : eqb (node_at (decode table) n).kind 20 ≡ false). simp (e, counted-dead (decode table) n dead))
        (bool_cases (eqb (node_at (decode table) n).kind 20))

    dead-left : left_code (decode table) (counted (decode table)) n ≡ none
    unfolding left_code
    dead-left =
        let quiet = effect-dead (decode table) formed n dead in
        ⊎_elim
        (λ (e : eqb (node_at (decode table) n).kind 20 ≡ true). simp (e, quiet) (either-none 16 (not (left_locally (decode table) (counted (decode table)) (node_at (decode table) n).b))))
        (λ (e : eqb (node_at (decode table) n).kind 20 ≡ false). simp e)
        (bool_cases (eqb (node_at (decode table) n).kind 20))

    pub visited-past : (planes : List ℕ) (rule : ℕ) → VisitedTo (decode table) n planes rule → VisitedTo (decode table) (n + 1) planes rule
    visited-past planes rule so_far =
        record {
          size = so_far.size;
          ruled =
              record {
                facts =
                    plane_more (fact (decode table) (counted (decode table))) n (facts_plane planes) (facts_plane planes) few so_far.ruled.facts
                    (simp dead-fact);
                least =
                    omega (
                      arith,
                      so_far.ruled.least,
                      least_more (guard_code (decode table) (counted (decode table))) n,
                      dead-guard,
                      least-high (guard_code (decode table) (counted (decode table))) n,
                    );
              };
          used = λ k l e. let (m, below, some) = so_far.used k l e in (m, omega arith, some);
        }

    pub passed-past : (rule : ℕ) (start planes : List ℕ) (least : ℕ) → PassedTo (decode table) (counted (decode table)) rule start n planes least
        → PassedTo (decode table) (counted (decode table)) rule start (n + 1) planes least
    passed-past rule start planes least so_far =
        let unheld = denied (holds_leave (decode table) (counted (decode table)) n) (live (decode table) n) (leave-alive (decode table) formed n) dead in
        let unleft = denied (left_locally (decode table) (counted (decode table)) n) (live (decode table) n) (left-alive n) dead in
        record {
          size = so_far.size;
          facts = so_far.facts;
          held = plane_more (holds_leave (decode table) (counted (decode table))) n (leaves_plane planes) (leaves_plane planes) few so_far.held (simp unheld);
          left = λ facts.
              let old = so_far.left facts in (
                plane_more (left_locally (decode table) (counted (decode table))) n (left_plane planes) (left_plane planes) few old.0 (simp unleft),
                omega (
                  arith,
                  old.1,
                  least_more (left_code (decode table) (counted (decode table))) n,
                  dead-left,
                  least-high (left_code (decode table) (counted (decode table))) n,
                ),
              );
          high = so_far.high;
        }

  -- a stretch of nodes that count
  module _ (n end : ℕ) (all : end ≤ nodes (decode table))
      (counts : (k : ℕ) → n ≤ k → k < end → counted (decode table) k ≡ statement_at (decode table) k) where
    abbrev pub counting : (to : ℕ) → to ≤ end → Reading (decode table) n to
    counting to within =
        record { counts = counted (decode table); each = each-counted (decode table); here = λ k from below. counts k from (omega arith) }

    -- nothing fails at any node, so it is swept to its end
    module _ (clean : (k : ℕ) → k < nodes (decode table) → Clean table k) (top : ℕ) (limit : top ≡ procedures (decode table))
        (planes after : List ℕ) (rule : ℕ) (r : Reached) (so_far : VisitedTo (decode table) n planes rule)
        (q : Quickly (decode table) (record { node = n; limit = top }) end rule planes after r) where
      used-after : (k : ℕ) → k < 256 → bit_at (used_plane after) k ≡ true
          → (m : ℕ) × (m < r.node) × (1 ≤ occurrences k (parts_at (decode table) m))
      used-after k l e =
          ⊎_elim
          (λ (h : bit_at (used_plane planes) k ≡ true).
          let (m, below, some) = so_far.used k l h in (m, omega (arith, q.going.from), some))
          (λ (h : (m : ℕ) × (m < r.node) × (1 ≤ occurrences k (parts_at (decode table) m))). h)
          (q.going.used k l e)

      unused : (k : ℕ) → In k (parts_at (decode table) r.node) → bit_at (used_plane after) k ≡ false
      unused k i =
          ⊎_elim
          (λ (e : bit_at (used_plane after) k ≡ true).
          let below = part_low (decode table) formed r.node k i in
          let inside = named-below (decode table) formed r.node k i in
          let (m, l, some) = used-after k (omega (arith, formed.nodes-high)) e in
          let same : m ≡ r.node = one_name (decode table) formed m r.node k (counted_in (parts_at (decode table) m) k some) i in
          absurd (omega arith))
          (λ (e : bit_at (used_plane after) k ≡ false). e)
          (bool_cases (bit_at (used_plane after) k))

      pub swept_whole : r.node ≡ end
      unfolding node_best
      swept_whole =
          elim (dec_lt r.node end) [
            | yes l ↦
                let here = clean r.node (omega arith) in
                let best : node_best (decode table) r.node (used_plane after) none ≡ none =
                simp (here.known, here.zero, here.fits)
                (fresh-code (used_plane after) (parts_at (decode table) r.node) none unused (part-once r.node)) in
                absurd (omega (arith, q.stuck l limit none (omega arith)))
            | no h ↦ omega (arith, q.going.to)
          ]

      pub visited_on : VisitedTo (decode table) r.node after r.rule
      visited_on =
          record {
            size = q.going.size;
            ruled = q.going.ruled (counting r.node q.going.to) so_far.ruled;
            used = used-after;
          }

  -- before the first node
  pub visited-none : VisitedTo (decode table) 0 (replicate all_planes 0) none
  visited-none =
      record {
        size = refl;
        ruled = ruled-none (decode table) (counted (decode table));
        used = λ k l e. absurd (contrary (bit_at (replicate 8 0) k) e (bit-zero 8 k));
      }

-- where there is no leave none counts
pub uncounted_leaves : (program : Program) → ((k : ℕ) → is_leave (statement_at program k) ≡ false) → (k : ℕ)
    → is_leave (counted program k) ≡ false
uncounted_leaves program free k =
    ⊎_elim (λ (e : counted program k ≡ statement_at program k). ap is_leave e ∙ free k)
    (λ (e : counted program k ≡ nothing). ap is_leave e)
    (each-counted program k)

-- what a stretch says of its nodes
module _ (program : Program) (formed : Formed program) (planes : List ℕ) (beside : Beside program planes) {n end count : ℕ}
    (all : count ≡ nodes program) (stretch : Stretch (aside_plane planes) n count end) where
  pub stretch_within : end ≤ nodes program
  stretch_within = omega (arith, stretch.to)

  -- they count
  pub stretch_counts : (k : ℕ) → n ≤ k → k < end → counted program k ≡ statement_at program k
  stretch_counts k from to = beside.aside.counts k (omega (arith, stretch.to)) (stretch.free k from to)

-- what holds from one number to the next holds from n on
climb : (P : ℕ → Type 0) (n to : ℕ) → ((k : ℕ) → n ≤ k → k < to → P k → P (k + 1)) → n ≤ to → P n → P to
climb P n zero more l h = let e : n ≡ zero = omega arith in rw e at h
climb P n (suc to) more l h =
    elim (dec_lt n (suc to)) [
      | yes below ↦
          let before : P to = climb P n to (λ k from under. more k from (omega arith)) (omega arith) h in
          let here : to + 1 ≡ suc to = omega arith in
          rw here at (more to (omega arith) (omega arith) before)
      | no past ↦ let e : n ≡ suc to = omega arith in rw e at h
    ]

-- over nodes that are all set aside
module _ (table : List ℕ) (formed : Formed (decode table)) (planes : List ℕ) (beside : Beside (decode table) planes) (n to : ℕ)
    (past : AllMarked (aside_plane planes) n to) (on : n ≤ to) (low : to ≤ nodes (decode table)) where
  dead-at : (k : ℕ) → n ≤ k → k < to → (is_statement (decode table) k ≡ true) × (live (decode table) k ≡ false)
  dead-at k from under = beside.aside.dead k (omega (arith, formed.nodes-high)) (past k from under)

  pub visited-over : (work : List ℕ) (rule : ℕ) → VisitedTo (decode table) n work rule → VisitedTo (decode table) to work rule
  visited-over work rule =
      climb (λ k. VisitedTo (decode table) k work rule) n to
      (λ k from under. visited-past table formed k (omega (arith, formed.nodes-high)) (dead-at k from under).0 (dead-at k from under).1 work rule) on

  pub passed-over : (rule : ℕ) (start work : List ℕ) (least : ℕ) → PassedTo (decode table) (counted (decode table)) rule start n work least
      → PassedTo (decode table) (counted (decode table)) rule start to work least
  passed-over rule start work least =
      climb (λ k. PassedTo (decode table) (counted (decode table)) rule start k work least) n to
      (λ k from under. passed-past table formed k (omega (arith, formed.nodes-high)) (dead-at k from under).0 (dead-at k from under).1 rule start work least) on
