-- The pass over the nodes: what is kept of a node by its kind, and of a table without leaves.
use mathlib.Core.Bool.{Bool, true, false, cond, not, ◌&&◌, ◌||◌, or-false}
use mathlib.Core.List.{List, [], ◌∷◌}
use mathlib.Core.Logic.{⊎_elim}
use mathlib.Core.Path.{◌≡◌, refl, sym, ◌∙◌, ap}
use Prim.Native.Nat.{ℕ, zero, suc, ◌+◌, ◌%◌, ◌≤◌, ◌<◌, min}
use native.Mathlib.Omega.{arith}
use lib.Dec.{ltb, eqb}
use lib.ListN.{length, get_or, replicate}
use borrow.Author.Tests.{ltb-true, eqb-false, ne_eqb}
use Rattle.rules.specs.declared.Node.{Node}
use Rattle.rules.specs.Choice.{all_below}
use Rattle.rules.specs.Judgement.{single, effect_of, effect, holds_leave, local_if, left_locally}
use Rattle.rules.specs.Table.{Program, nodes, node_at, statement_at, is_leave, Statement}
use Rattle.rules.specs.WellFormed.{is_expression, is_statement, expression_part, statement_part, open_parts}
use Rattle.rules.proofs.AnswerLaws.{both_left, both_right}
use Rattle.rules.proofs.ChoiceLaws.{bool_cases}
use Rattle.rules.proofs.Formed.{Formed}
use Rattle.rules.proofs.KindLaws.{sequence_of, branch_of, loop_of, leave_of, statement-here, sequence_fields, branch_fields, loop_fields}
use Rattle.rules.proofs.ValueLaws.{effect-here}
use Rattle.table.specs.Marks.{bit_at, with_bit}
use borrow.Rule.Slice.PartMut.{mid_of, put_mid}
use Rattle.table.proofs.BitLaws.{length-with_bit, none-set}
use Rattle.visit.specs.Facts.{Reading, PlaneTo, FactsTo, NotedTo}
use Rattle.visit.specs.Fields.{facts_plane, leaves_plane, leaves_from, plane_words, all_planes}
use Rattle.visit.specs.Least.{none, code, failure, least_below}
use Rattle.visit.proofs.FactLaws.{earlier_of, last_of, as_it_is, plane_none, plane_more, fact-expression, fact-statement}
use Rattle.visit.proofs.LeastLaws.{least_more}
use Rattle.visit.proofs.PlaneLaws.{used-length, leaves-length, leaves-lent, used_put_used, facts_put_used, leaves_put_used, length_put_used}
use Rattle.visit.proofs.PlaneLaws.{used_put_leaves, facts_put_leaves, leaves_put_leaves, length_put_leaves}
use Rattle.leaves.specs.Leaves.{left_plane, HeldTo, LeftTo, left_code, either_bit, Joined, NodePassed, NodesPassed, Cleared, PassedTo, LeavesPassed}
use Rattle.leaves.proofs.HeldLaws.{Plain, plain, holds_at, left_at, no-leaves, none-held, none_left}

-- a part lies below the node that names it, and is of its sort
part : (n a : ℕ) (sort : Bool) → (ltb a n && sort) ≡ true → (a < n) × (sort ≡ true)
part n a sort e = (ltb-true a n (both_left (ltb a n) sort e), both_right (ltb a n) sort e)

-- a rule that fails where two things hold
both_fail : (n : ℕ) (s t : Bool) → cond (s && t) (code 16 n) none ≡ failure 16 n (not s || not t)
both_fail n true true = refl
both_fail n true false = refl
both_fail n false t = refl

length_marked : (plane : List ℕ) (n : ℕ) (bit : Bool) → length (cond bit (with_bit plane n) plane) ≡ length plane
length_marked plane n true = length-with_bit plane n
length_marked plane n false = refl

-- what `join` writes: the plane of leaves first, then the first plane
pub joined-put : (n : ℕ) (local : Bool) (x y : ℕ) (planes held-words left-words : List ℕ) (held left : Bool) → length planes ≡ all_planes
    → held ≡ either_bit (leaves_plane planes) x y
    → left ≡ ((local && held) || either_bit (left_plane planes) x y)
    → held-words ≡ cond held (with_bit (leaves_plane planes) n) (leaves_plane planes)
    → left-words
    ≡ cond left (with_bit (left_plane (put_mid leaves_from plane_words planes held-words)) n)
    (left_plane (put_mid leaves_from plane_words planes held-words))
    → Joined n local x y planes (put_mid 0 plane_words (put_mid leaves_from plane_words planes held-words) left-words)
joined-put n local x y planes held-words left-words held left size is_held_lem is-left made_held made-left =
    let many : length held-words ≡ plane_words =
    ap length made_held ∙ length_marked (leaves_plane planes) n held ∙ leaves-length planes size in
    let first = put_mid leaves_from plane_words planes held-words in
    let first-size : length first ≡ all_planes = length_put_leaves planes size held-words many in
    let same : left_plane first ≡ left_plane planes = used_put_leaves planes size held-words many in
    let left-many : length left-words ≡ plane_words =
    ap length made-left ∙ length_marked (left_plane first) n left ∙ used-length first first-size in
    record {
      size = length_put_used first first-size left-words left-many;
      facts = facts_put_used first first-size left-words left-many ∙ facts_put_leaves planes size held-words many;
      held =
          leaves_put_used first first-size left-words left-many
          ∙ leaves_put_leaves planes size held-words many
          ∙ rw (← is_held_lem) made_held;
      left = used_put_used first first-size left-words left-many ∙ rw (← is_held_lem, ← is-left, ← same) made-left;
    }

module _ (program : Program) (formed : Formed program) (n : ℕ) (low : n < nodes program) (planes after : List ℕ)
    (size : length after ≡ all_planes) (facts-same : facts_plane after ≡ facts_plane planes) where
  abbrev m : Node
  m = node_at program n

  few : n < 256
  few = omega (arith, formed.nodes-high)

  unruled : (counts : ℕ → Statement) → (m.kind ≡ 20 → ⊥) → none ≡ left_code program counts n
  unfolding left_code
  unruled counts other = simp (ne_eqb m.kind 20 other)

  -- from the bits that are set
  by_bits : (held left : Bool) (r : ℕ)
      → leaves_plane after ≡ cond held (with_bit (leaves_plane planes) n) (leaves_plane planes)
      → left_plane after ≡ cond left (with_bit (left_plane planes) n) (left_plane planes)
      → ((reading : Reading program n (n + 1)) → HeldTo program reading.counts n (leaves_plane planes)
      → held ≡ holds_leave program reading.counts n)
      → ((reading : Reading program n (n + 1)) → HeldTo program reading.counts n (leaves_plane planes)
      → FactsTo program reading.counts (nodes program) (facts_plane planes) → LeftTo program reading.counts n (left_plane planes)
      → (left ≡ left_locally program reading.counts n) × (r ≡ left_code program reading.counts n))
      → NodePassed program n planes after r
  by_bits held left r made_held made-left is_held_lem is-left =
      record {
        size = size;
        facts = facts-same;
        held = λ reading known.
            plane_more (holds_leave program reading.counts) n (leaves_plane planes) (leaves_plane after) few known
            (rw (← is_held_lem reading known) made_held);
        left = λ reading holding facts known.
            let so = is-left reading holding facts known in (
              plane_more (left_locally program reading.counts) n (left_plane planes) (left_plane after) few known (rw (← so.0) made-left),
              so.1,
            );
      }

  -- where nothing is set
  shut : Plain program (statement_at program n) → (reading : Reading program n (n + 1))
      → (holds_leave program reading.counts n ≡ false) × (left_locally program reading.counts n ≡ false)
  shut (free, closed, single) reading = (
    holds_at program formed reading.counts n ∙ simp (as_it_is reading, free, closed),
    left_at program formed reading.counts n ∙ simp (as_it_is reading, single, closed),
  )

  pub pass_other : after ≡ planes → (m.kind ≡ 18 → ⊥) → (m.kind ≡ 19 → ⊥) → (m.kind ≡ 20 → ⊥) → (m.kind ≡ 26 → ⊥)
      → NodePassed program n planes after none
  unfolding statement_at
  pass_other same no18 no19 no20 no26 =
      let closed = plain program m no18 no19 no26 in
      by_bits false false none (ap leaves_plane same) (ap left_plane same) (λ reading known. sym (shut closed reading).0)
      (λ reading holding facts known. (sym (shut closed reading).1, unruled reading.counts no20))

  pub pass_leave : m.kind ≡ 26 → leaves_plane after ≡ with_bit (leaves_plane planes) n → left_plane after ≡ left_plane planes
      → NodePassed program n planes after none
  unfolding statement_at open_parts local_if
  pass_leave is made same =
      let s = leave_of m is in
      by_bits true false none made same (λ reading known. sym (holds_at program formed reading.counts n ∙ rw (as_it_is reading, s)))
      (λ reading holding facts known. (
        sym (left_at program formed reading.counts n ∙ rw (as_it_is reading, s)),
        unruled reading.counts (omega arith),
      ))

  pub pass_loop : {node : Node} → node ≡ m → m.kind ≡ 20 → after ≡ planes → (r : ℕ)
      → r ≡ cond (bit_at (left_plane planes) (node.b % 256) && bit_at (facts_plane planes) (node.b % 256)) (code 16 n) none
      → NodePassed program n planes after r
  unfolding statement_part statement_at left_code effect_of
  pass_loop here is same r answer =
      let closed = plain program m (omega arith) (omega arith) (omega arith) in
      let b = part n m.b (is_statement program m.b) (loop_fields program formed n m refl is).1 in
      let own : m.b % 256 ≡ m.b = omega (arith, b.0, few) in
      by_bits false false r (ap leaves_plane same) (ap left_plane same) (λ reading known. sym (shut closed reading).0)
      (λ reading holding facts known.
      let counts = reading.counts in
      let whole : effect program counts n ≡ effect program counts m.b =
      effect-here program n counts (rw (as_it_is reading) (formed.statement-fits n))
      ∙ ap (effect_of program (effect program counts)) (as_it_is reading ∙ loop_of m is) in (
        sym (shut closed reading).1,
        (rw (here, own) at answer)
            ∙ rw (
              known.known m.b b.0,
              facts.known m.b (omega (arith, b.0)),
              fact-statement program counts m.b b.1,
              is,
              whole,
            )
            (both_fail n (left_locally program counts m.b) (effect program counts m.b)),
      ))

  -- two parts in the same while
  module _ (x y : ℕ) (low_x : x < n) (low-y : y < n) (parts : open_parts (statement_at program n) ≡ x ∷ y ∷ [])
      (no-leave-here : is_leave (statement_at program n) ≡ false) (other : m.kind ≡ 20 → ⊥) (local : Bool)
      (is-local : (reading : Reading program n (n + 1)) → FactsTo program reading.counts (nodes program) (facts_plane planes)
      → local ≡ local_if program (statement_at program n)) where
    either : (test : ℕ → Bool) (plane : List ℕ) → PlaneTo test n plane → either_bit plane x y ≡ (test x || test y)
    either test plane known =
        let own_x : x % 256 ≡ x = omega (arith, few) in
        let own-y : y % 256 ≡ y = omega (arith, few) in
        rw (own_x, own-y) (rw (known.known x low_x, known.known y low-y))

    held-here : (reading : Reading program n (n + 1)) → HeldTo program reading.counts n (leaves_plane planes)
        → either_bit (leaves_plane planes) x y ≡ holds_leave program reading.counts n
    held-here reading known =
        either (holds_leave program reading.counts) (leaves_plane planes) known
        ∙ sym (holds_at program formed reading.counts n ∙ simp (as_it_is reading, no-leave-here, parts, or-false))

    pub pass_joined : Joined n local x y planes after → NodePassed program n planes after none
    pass_joined j =
        by_bits (either_bit (leaves_plane planes) x y)
        ((local && either_bit (leaves_plane planes) x y) || either_bit (left_plane planes) x y)
        none j.held j.left held-here
        (λ reading holding facts known. (
          rw (
            is-local reading facts,
            held-here reading holding,
            either (left_locally program reading.counts) (left_plane planes) known,
          )
              (sym (left_at program formed reading.counts n ∙ simp (as_it_is reading, parts, or-false))),
          unruled reading.counts other,
        ))

  module _ {node : Node} (here : node ≡ m) where
    pub pass_sequence : m.kind ≡ 18 → Joined n false node.a node.b planes after → NodePassed program n planes after none
    unfolding statement_part open_parts local_if
    pass_sequence is j =
        let (first, second) = sequence_fields program formed n m refl is in
        let a = part n m.a (is_statement program m.a) first in
        let b = part n m.b (is_statement program m.b) second in
        let s = statement-here program n m refl (sequence_of m is) in
        pass_joined m.a m.b a.0 b.0 (ap open_parts s) (ap is_leave s) (omega arith) false
        (λ reading facts. sym (ap (local_if program) s)) (rw here at j)

    pub pass_branch : m.kind ≡ 19 → (local : Bool) → local ≡ bit_at (facts_plane planes) (node.a % 256)
        → Joined n local node.b node.c planes after → NodePassed program n planes after none
    unfolding expression_part statement_part open_parts local_if
    pass_branch is local read j =
        let (test, first, second) = branch_fields program formed n m refl is in
        let a = part n m.a (is_expression program m.a) test in
        let b = part n m.b (is_statement program m.b) first in
        let c = part n m.c (is_statement program m.c) second in
        let s = statement-here program n m refl (branch_of m is) in
        let own : m.a % 256 ≡ m.a = omega (arith, a.0, few) in
        pass_joined m.b m.c b.0 c.0 (ap open_parts s) (ap is_leave s) (omega arith) local
        (λ reading facts.
        (rw (here, own) at read)
        ∙ facts.known m.a (omega (arith, a.0))
        ∙ fact-expression program reading.counts m.a (reading.each m.a) a.1
        ∙ sym (ap (local_if program) s))
        (rw here at j)

-- the loop
module _ (program : Program) (reading : ℕ → Statement) (rule : ℕ) (start : List ℕ) where
  pub passed_none : rule ≤ none → length start ≡ all_planes → left_plane start ≡ replicate plane_words 0
      → leaves_plane start ≡ replicate plane_words 0 → PassedTo program reading rule start 0 start rule
  unfolding least_below
  passed_none high size clear-left clear-held =
      record {
        size = size;
        facts = refl;
        held = rw clear-held (plane_none (holds_leave program reading));
        left = λ facts. (rw clear-left (plane_none (left_locally program reading)), omega arith);
        high = high;
      }

  pub passed-all : {planes : List ℕ} {least n : ℕ} → PassedTo program reading rule start n planes least → n ≡ nodes program
      → LeavesPassed program reading rule start planes least
  passed-all so_far all =
      record {
        size = so_far.size;
        facts = so_far.facts;
        held = rw all at so_far.held;
        least = λ facts. rw all at (so_far.left facts).1;
        high = so_far.high;
      }

-- one node more of a stretch
module _ (program : Program) (first start : ℕ) (before : List ℕ) where
  pub stretch_more : (n least found least' : ℕ) (planes after : List ℕ) → first ≤ n
      → NodesPassed program first n start before planes least → NodePassed program n planes after found → least' ≡ min least found
      → NodesPassed program first (n + 1) start before after least'
  stretch_more n least found least' planes after from so_far here is =
      record {
        size = here.size;
        high = omega (arith, is, so_far.high);
        passed = λ reading rule begun at_first.
            let counts = reading.counts in
            let last = last_of n from reading in
            let old = so_far.passed (earlier_of n reading) rule begun at_first in
            record {
              size = here.size;
              facts = here.facts ∙ old.facts;
              held = here.held last old.held;
              left = λ facts.
                  let known = old.left facts in
                  let new = here.left last old.held (rw old.facts facts) known.0 in
                  (new.0, is ∙ rw (known.1, new.1) (omega (arith, least_more (left_code program counts) n)));
              high = omega (arith, is, so_far.high);
            };
      }

-- where no leave counts

module _ (program : Program) (formed : Formed program) (reading : ℕ → Statement) (free : (k : ℕ) → is_leave (reading k) ≡ false) where
  none-ruled : (n : ℕ) → left_code program reading n ≡ none
  unfolding left_code
  none-ruled n =
      let unleft = none_left program formed reading free (node_at program n).b in
      ⊎_elim (λ (e : eqb (node_at program n).kind 20 ≡ true). simp (e, unleft))
      (λ (e : eqb (node_at program n).kind 20 ≡ false). simp e)
      (bool_cases (eqb (node_at program n).kind 20))

  none-least : (n : ℕ) → least_below (left_code program reading) n ≡ none
  unfolding least_below
  none-least zero = refl
  none-least (suc n) = omega (arith, none-least n, none-ruled n)

  pub none_passed : (rule : ℕ) → rule ≤ none → (planes : List ℕ) → length planes ≡ all_planes
      → ((k : ℕ) → k < 256 → bit_at (leaves_plane planes) k ≡ false) → LeavesPassed program reading rule planes planes rule
  none_passed rule high planes size clear =
      record {
        size = size;
        facts = refl;
        held =
            record {
              size = leaves-length planes size;
              known = λ k l. clear k (omega (arith, formed.nodes-high)) ∙ sym (none-held program formed reading free k);
              clear = λ k h l. clear k l;
            };
        least = λ facts. omega (arith, none-least (nodes program));
        high = high;
      }

pub none-noted : (program : Program) → Formed program → (rule : ℕ) → rule ≤ none → (planes : List ℕ) → length planes ≡ all_planes
    → NotedTo program (nodes program) (leaves_plane planes)
    → all_below (λ i. eqb (get_or (mid_of leaves_from plane_words planes) i 0) 0) (length (mid_of leaves_from plane_words planes)) ≡ true
    → LeavesPassed program (statement_at program) rule planes planes rule
none-noted program formed rule high planes size noted lent =
    let all = rw (leaves-lent planes size) at lent in
    let clear : (k : ℕ) → k < 256 → bit_at (leaves_plane planes) k ≡ false =
    λ k l. none-set (leaves_plane planes) all k (omega (arith, noted.size)) in
    let free : (k : ℕ) → k < nodes program → (node_at program k).kind ≡ 26 → ⊥ =
    λ k l. eqb-false (node_at program k).kind 26 (sym (noted.known k l) ∙ clear k (omega (arith, formed.nodes-high))) in
    none_passed program formed (statement_at program) (no-leaves program formed free) rule high planes size clear

-- a pass over planes that were cleared
pub passed-cleared : {program : Program} {between after : List ℕ} {reading : ℕ → Statement} {rule r : ℕ} (planes : List ℕ) → Cleared planes between
    → LeavesPassed program reading rule between after r → LeavesPassed program reading rule planes after r
passed-cleared planes clear passed =
    record {
      size = passed.size;
      facts = passed.facts ∙ clear.facts;
      held = passed.held;
      least = λ facts. passed.least (rw clear.facts facts);
      high = passed.high;
    }
