-- The loops over the nodes: what a visit adds, and where they begin.
use mathlib.Core.Bool.{true, false}
use mathlib.Core.List.{List}
use mathlib.Core.Logic.{◌⊎◌, inl, inr, ⊎_elim}
use mathlib.Core.Path.{◌≡◌, refl, sym, ◌∙◌, ap}
use Prim.Native.Nat.{ℕ, ◌+◌, ◌≤◌, ◌<◌, min}
use native.Mathlib.Decide.{dec_lt}
use native.Mathlib.Omega.{arith}
use lib.Dec.{ltb}
use lib.ListN.{length, replicate}
use borrow.Author.Tests.{ltb-true}
use borrow.Rule.Slice.PartMut.{put_mid}
use Rattle.rules.specs.Table.{Program, decode, procedures, nodes, body, Statement}
use Rattle.rules.specs.WellFormed.{parts_at, occurrences}
use Rattle.rules.proofs.AnywhereLaws.{either_cases}
use Rattle.calls.specs.Blocks.{Blocks, more}
use Rattle.calls.proofs.BlockLaws.{blocks-called}
use Rattle.table.specs.declared.Header.{Header}
use Rattle.table.specs.Sized.{Sized}
use Rattle.table.specs.Marks.{bit_at}
use Rattle.table.proofs.TestLaws.{never}
use Rattle.table.proofs.UseLaws.{bits_at}
use Rattle.visit.specs.declared.Visit.{Visit}
use Rattle.visit.specs.Exact.{node_best, node_marks}
use Rattle.visit.specs.Facts.{guard_code}
use Rattle.visit.specs.Fields.{used_plane, plane_words, all_planes}
use Rattle.visit.specs.Least.{none, least_below}
use Rattle.quick.specs.Visited.{Visited}
use Rattle.visit.proofs.FactLaws.{whole, earlier_of, last_of, plane_none}
use Rattle.visit.proofs.LeastLaws.{least_more}
use Rattle.visit.proofs.PlaneLaws.{used-length, used_put_used, facts_put_used, leaves_put_used}
use Rattle.sweep.specs.declared.Blocked.{Blocked}
use Rattle.sweep.specs.declared.Reached.{Reached}
use Rattle.sweep.specs.Nodes.{RuledTo, KeptTo, Fails, Going, Quickly, InBlocks, AllNodes}
use Rattle.sweep.specs.Swept.{SweptTo}
use Rattle.sweep.proofs.EndLaws.{quick_swept, swept_none, node-length}
use Rattle.sweep.proofs.SweptLaws.{node_swept}

abbrev visiting : Visit → ℕ → Visit
visiting first n =
    record { node = n; limit = first.limit }

module _ (table : List ℕ) (first : Visit) (end start : ℕ) (before : List ℕ) where
  pub going_more : {header : Header} → Sized table header → end ≤ nodes (decode table)
      → (n rule found rule' : ℕ) (now after : List ℕ)
      → Going (decode table) first end start before now n rule
      → n < end
      → Visited (decode table) (visiting first n) now after found
      → (found ≡ 0 → ⊥)
      → rule' ≡ min rule found
      → Going (decode table) first end start before after (n + 1) rule'
  going_more sized all n rule found rule' now after g inside visited taken least =
      record {
        from = omega (arith, g.from);
        to = omega arith;
        size = visited.size;
        low = omega (arith, least, g.low);
        marks = λ best swept.
            quick_swept sized.nodes-high (omega arith) (visited.taken taken) (g.marks best swept);
        called = λ k from to. elim (dec_lt k n) [
          | yes earlier ↦ g.called k from earlier
          | no here ↦ let same : k ≡ n = omega arith in rw same (visited.called taken)
        ];
        noted = λ so_far. visited.noted taken (g.noted so_far);
        ruled = λ reading so_far.
            let old = g.ruled (earlier_of n reading) so_far in
            let new = visited.facts taken (last_of n g.from reading) old.facts in
            record {
              facts = new.0;
              least = least ∙ rw (old.least, new.1) (sym (least_more (guard_code (decode table) reading.counts) n));
            };
        used = λ k low e.
            ⊎_elim
            (λ (h : bit_at (used_plane now) k ≡ true). used-before k low h)
            (λ (h : ltb 0 (occurrences k (parts_at (decode table) n)) ≡ true). inr (n, omega arith, omega (arith, ltb-true 0 (occurrences k (parts_at (decode table) n)) h)))
            (either_cases (bit_at (used_plane now) k) (ltb 0 (occurrences k (parts_at (decode table) n)))
            (sym (bits_at (used_plane now) (parts_at (decode table) n) k (omega (arith, used-length now g.size)))
            ∙ rw (visited.taken taken).used at e));
      }
    where
      used-before : (k : ℕ) → k < 256 → bit_at (used_plane now) k ≡ true
          → (bit_at (used_plane before) k ≡ true) ⊎ ((m : ℕ) × (m < n + 1) × (1 ≤ occurrences k (parts_at (decode table) m)))
      used-before k low e =
          ⊎_elim
          (λ (h : bit_at (used_plane before) k ≡ true). inl h)
          (λ (h : (m : ℕ) × (m < n) × (1 ≤ occurrences k (parts_at (decode table) m))). inr (h.0, omega (arith, h.1), h.2))
          (g.used k low e)

-- before the first node
pub ruled-none : (program : Program) (reading : ℕ → Statement) → RuledTo program reading 0 none (replicate all_planes 0)
unfolding least_below
ruled-none program reading = record { facts = plane_none _; least = refl }

kept-none : (program : Program) → KeptTo program 0 none (replicate all_planes 0)
kept-none program = record { noted = plane_none _; ruled = ruled-none program _ }

-- it does not change with the plane of the nodes used
pub kept_put : {program : Program} {n rule : ℕ} (planes : List ℕ) (size : length planes ≡ all_planes) (words : List ℕ)
    (many : length words ≡ plane_words) → KeptTo program n rule planes → KeptTo program n rule (put_mid 0 plane_words planes words)
kept_put planes size words many kept =
    record {
      noted = rw (leaves_put_used planes size words many) kept.noted;
      ruled =
          record {
            facts = rw (facts_put_used planes size words many) kept.ruled.facts;
            least = kept.ruled.least;
          };
    }

-- where each counts as what it is
kept_on : {program : Program} {first : Visit} {end start n rule : ℕ} {before after : List ℕ}
    → Going program first end start before after n rule → KeptTo program first.node start before → KeptTo program n rule after
kept_on {program} {first} {n = n} g so_far =
    record {
      noted = g.noted so_far.noted;
      ruled = g.ruled (whole program first.node n) so_far.ruled;
    }

-- block by block: the blocks of the procedures below p end before node n

pub record Blocking (program : Program) (planes : List ℕ) (n p rule : ℕ) : Type 0 where
  pub to : n ≤ nodes program
  pub size : length planes ≡ all_planes
  pub low : rule ≤ none
  pub marks : SweptTo program n none (used_plane planes)
  pub kept : KeptTo program n rule planes
  pub blocks : Blocks program n p

module _ (program : Program) where
  pub blocking_none : Blocking program (replicate all_planes 0) 0 0 none
  blocking_none =
      record {
        to = omega arith;
        size = refl;
        low = omega arith;
        marks = swept_none program;
        kept = kept-none program;
        blocks = Blocks.none;
      }

  module _ {planes : List ℕ} {n p rule : ℕ} (b : Blocking program planes n p rule) where
    pub blocking_ends : p ≡ procedures program → InBlocks program planes (record { reached = record { node = n; rule = rule }; ordered = true })
    blocking_ends all =
        record {
          to = b.to;
          size = b.size;
          low = b.low;
          marks = b.marks;
          kept = b.kept;
          called = λ e. blocks-called program n (rw all at b.blocks);
        }

    abbrev in_block : Visit
    in_block = record { node = n; limit = p }

    module _ (last : ℕ) (within : last < nodes program) (after : List ℕ) (r : Reached)
        (q : Quickly program in_block (last + 1) rule planes after r) where
      pub block-stops : InBlocks program after (record { reached = r; ordered = false })
      block-stops =
          record {
            to = omega (arith, q.going.to);
            size = q.going.size;
            low = q.going.low;
            marks = q.going.marks none b.marks;
            kept = kept_on q.going b.kept;
            called = λ e. never (sym e);
          }

      pub block_more : p < procedures program → n ≤ last → last ≡ body program p → (r.node ≤ last → ⊥)
          → Blocking program after r.node (p + 1) r.rule
      block_more here inside is whole =
          let all : r.node ≡ body program p + 1 = omega (arith, q.going.to) in
          record {
            to = omega (arith, q.going.to);
            size = q.going.size;
            low = q.going.low;
            marks = q.going.marks none b.marks;
            kept = kept_on q.going b.kept;
            blocks =
                rw all
                (more n p b.blocks (omega arith) (λ k from to. q.going.called k from (omega arith)));
          }

-- the nodes from there on, wherever they stand

pub record Resting (program : Program) (planes : List ℕ) (best : ℕ) (r : Reached) : Type 0 where
  pub to : r.node ≤ nodes program
  pub size : length planes ≡ all_planes
  pub low : r.rule ≤ none
  pub high : best ≤ none
  pub marks : SweptTo program r.node best (used_plane planes)
  pub kept : best ≡ none → KeptTo program r.node r.rule planes
  pub stuck : r.node < nodes program → Fails program r.node planes

module _ (table : List ℕ) (header : Header) (sized : Sized table header) where
  abbrev from-node : ℕ → Visit
  from-node n = record { node = n; limit = header.procedures }

  pub resting_none : (blocked : Blocked) (planes after : List ℕ) (r : Reached) → InBlocks (decode table) planes blocked
      → Quickly (decode table) (from-node blocked.reached.node) header.nodes blocked.reached.rule planes after r
      → Resting (decode table) after none r
  resting_none blocked planes after r b q =
      record {
        to = omega (arith, q.going.to, sized.nodes-read);
        size = q.going.size;
        low = q.going.low;
        high = omega arith;
        marks = q.going.marks none b.marks;
        kept = λ clean. kept_on q.going b.kept;
        stuck = λ inside. q.stuck (omega (arith, sized.nodes-read)) sized.procedures-read;
      }

  pub resting_more : (planes words after : List ℕ) (best best' : ℕ) (now r : Reached) → Resting (decode table) planes best now
      → now.node < nodes (decode table)
      → best' ≡ node_best (decode table) now.node (used_plane planes) best
      → words ≡ node_marks (decode table) now.node (used_plane planes)
      → Quickly (decode table) (from-node (now.node + 1)) header.nodes now.rule (put_mid 0 plane_words planes words) after r
      → Resting (decode table) after best' r
  resting_more planes words after best best' now r s inside found noted q =
      let fails : best' < none = rw found (s.stuck inside best s.high) in
      let many : length words ≡ plane_words =
      ap length noted ∙ node-length (decode table) now.node (used_plane planes) ∙ used-length planes s.size in
      let swept : SweptTo (decode table) (now.node + 1) best' (used_plane (put_mid 0 plane_words planes words)) =
      rw (used_put_used planes s.size words many, found, noted)
      (node_swept (decode table) sized.nodes-high now.node inside best (used_plane planes) s.marks) in
      record {
        to = omega (arith, q.going.to, sized.nodes-read);
        size = q.going.size;
        low = q.going.low;
        high = omega arith;
        marks = q.going.marks best' swept;
        kept = λ clean. absurd (omega arith);
        stuck = λ more. q.stuck (omega (arith, sized.nodes-read)) sized.procedures-read;
      }

  pub resting_ends : (planes before : List ℕ) (best : ℕ) (now : Reached) (blocked : Blocked)
      → Resting (decode table) planes best now
      → (now.node < header.nodes → ⊥) → InBlocks (decode table) before blocked
      → AllNodes (decode table) planes (record { best = best; rule = now.rule; ordered = blocked.ordered })
  resting_ends planes before best now blocked s end b =
      let all : now.node ≡ nodes (decode table) = omega (arith, s.to, sized.nodes-read) in
      record {
        size = s.size;
        marks = rw all at s.marks;
        kept = λ clean. rw all at (s.kept clean);
        called = b.called;
      }
