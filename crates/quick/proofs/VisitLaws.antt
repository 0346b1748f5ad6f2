-- A visit from its parts: the fields that were taken, the leave that was noted, and the fact and the rule that were settled.
use mathlib.Core.Bool.{Bool, true, false, cond, and-false}
use mathlib.Core.Logic.{◌⊎◌, inl, inr, ⊎_elim}
use mathlib.Core.List.{List}
use mathlib.Core.Path.{◌≡◌, refl, sym, ◌∙◌, ap}
use Prim.Native.Nat.{ℕ, ◌+◌, ◌≤◌, ◌<◌}
use native.Mathlib.Decide.{dec_lt, ℕ_discrete}
use native.Mathlib.Omega.{arith}
use lib.Dec.{ltb, eqb}
use lib.ListN.{length}
use borrow.Author.Tests.{ltb-true, lt-leb, eq-eqb, eqb-false, ne_eqb}
use Rattle.rules.specs.declared.Node.{Node}
use Rattle.rules.specs.Table.{decode, procedures, nodes, node_at}
use Rattle.rules.specs.WellFormed.{node_fits, kind_known}
use Rattle.table.specs.declared.Header.{Header}
use Rattle.table.specs.declared.fields.Role.TheVariants.{Unnamed, Procedure}
use Rattle.table.specs.declared.fields.Roles.{Roles}
use Rattle.table.specs.Marks.{with_bit}
use Rattle.table.specs.Roles.{three, field_fits}
use Rattle.table.specs.Sized.{Sized}
use Rattle.table.proofs.TestLaws.{never}
use Rattle.visit.specs.declared.Visit.{Visit}
use Rattle.visit.specs.declared.facts.Source.{Source}
use Rattle.visit.specs.declared.facts.Source.TheVariants.{Never, Always, Unflagged, Flagged, Called, OfA, OfB, OfAOrB, OfBOrC}
use Rattle.visit.specs.Facts.{Reading, FactsTo, Settled}
use Rattle.visit.specs.Fields.{used_plane, facts_plane, leaves_plane, all_planes, Fields, Kept}
use Rattle.visit.specs.Quick.{Quick}
use Rattle.quick.specs.Visited.{Visited}
use Rattle.visit.proofs.FactLaws.{plane_more}
use Rattle.visit.proofs.PlaneLaws.{used-length, kept-none}
use Rattle.visit.proofs.QuickLaws.{Named, known_kind, three-tests, free-fits, quickly, calls-below}
use Rattle.visit.proofs.SettledLaws.{Judges, settled-used, settled-unused, settled-judged}
use Rattle.visit.proofs.StuckLaws.{stuck-by, stuck-kind}

-- a number that is no leave's, as each arm has it
pub other_as : {kind : ℕ} (k : ℕ) → eqb k 26 ≡ false → kind ≡ k → kind ≡ 26 → ⊥
other_as k none e leave = eqb-false k 26 none (sym e ∙ leave)

pub other-either : {kind : ℕ} (j k : ℕ) → eqb j 26 ≡ false → eqb k 26 ≡ false → (kind ≡ j) ⊎ (kind ≡ k) → kind ≡ 26 → ⊥
other-either j k first second = ⊎_elim (other_as j first) (other_as k second)

pub other-operation : {kind : ℕ}
    → (kind ≡ 6) ⊎ ((kind ≡ 7) ⊎ ((kind ≡ 8) ⊎ ((kind ≡ 9) ⊎ ((kind ≡ 10) ⊎ ((kind ≡ 11) ⊎ (kind ≡ 12)))))) → kind ≡ 26 → ⊥
other-operation =
    ⊎_elim (other_as 6 refl)
    (⊎_elim (other_as 7 refl)
    (⊎_elim (other_as 8 refl)
    (⊎_elim (other_as 9 refl) (⊎_elim (other_as 10 refl) (⊎_elim (other_as 11 refl) (other_as 12 refl))))))

module _ (table : List ℕ) {header : Header} (v : Visit) (sized : Sized table header) (low : v.node < header.nodes) where
  abbrev n : ℕ
  n = v.node

  -- an arm of the match, by the roles of its kind, by what judges it, and by the leave that is noted
  arm : (m : Node) (roles : Roles) (source : Source) (question guard r : ℕ) (before now between after : List ℕ) (used : Bool)
      → m ≡ node_at (decode table) n
      → Named m.kind roles
      → (n < nodes (decode table) → node_fits (decode table) n ≡ true → (reading : Reading (decode table) n (n + 1)) → FactsTo (decode table) reading.counts n (facts_plane before)
      → Judges (decode table) reading.counts n (facts_plane before) source question guard)
      → length before ≡ all_planes
      → Fields (decode table) v m roles before now used
      → Kept used now between
      → Settled (decode table) v m used source question guard between after r
      → (used ≡ true → leaves_plane between ≡ cond (eqb m.kind 26) (with_bit (leaves_plane now) n) (leaves_plane now))
      → Visited (decode table) v before after r
  arm m roles source question guard r before now between after used here named judges size f k s noted =
      let inside : n < nodes (decode table) = omega (arith, sized.nodes-read) in
      let few : n < 256 = omega (arith, inside, sized.nodes-high) in
      let free : (r ≡ 0 → ⊥) → used ≡ true =
      λ h. settled-used (decode table) v m used source question guard between after r s h in
      let idle : r ≡ 0 → used ≡ false =
      λ e. settled-unused (decode table) v m used source question guard between after r s e in
      let facts-same : facts_plane between ≡ facts_plane before = k.facts ∙ f.facts in
      let taken : (r ≡ 0 → ⊥) → Quick (decode table) n (used_plane before) (used_plane now) =
      λ h. quickly (decode table) v m here roles named (used_plane before) (f.taken (free h)) in
      record {
        size = s.size;
        same = λ e. s.same (idle e) ∙ k.same (idle e) ∙ f.same (idle e);
        stuck = λ e all best high.
            stuck-by (decode table) v m here roles named (used_plane before) (used-length before size) few all best high
            (sym f.answer ∙ idle e);
        taken = λ h. rw (s.marks ∙ k.marks) (taken h);
        called = λ h. calls-below (decode table) v m here roles named (used_plane before) (sym f.answer ∙ free h);
        noted = λ h known.
            plane_more (λ i. eqb (node_at (decode table) i).kind 26) n (leaves_plane before) (leaves_plane after) few known
            (s.leaves ∙ noted (free h) ∙ rw (here, f.leaves) refl);
        facts = λ h reading known.
            settled-judged (decode table) v m used source question guard between after r s here (free h) few reading.counts
            (rw facts-same known) (rw facts-same (judges inside (taken h).fits reading known));
      }

  -- that of a leave
  pub leave-arm : (m : Node) (roles : Roles) (source : Source) (question guard r : ℕ) (before now between after : List ℕ) (used : Bool)
      → m ≡ node_at (decode table) n
      → Named m.kind roles
      → (n < nodes (decode table) → node_fits (decode table) n ≡ true → (reading : Reading (decode table) n (n + 1)) → FactsTo (decode table) reading.counts n (facts_plane before)
      → Judges (decode table) reading.counts n (facts_plane before) source question guard)
      → length before ≡ all_planes
      → Fields (decode table) v m roles before now used
      → Kept used now between
      → Settled (decode table) v m used source question guard between after r
      → m.kind ≡ 26
      → (used ≡ true → leaves_plane between ≡ with_bit (leaves_plane now) n)
      → Visited (decode table) v before after r
  leave-arm m roles source question guard r before now between after used here named judges size f k s is noted =
      arm m roles source question guard r before now between after used here named judges size f k s
      (λ e. noted e ∙ simp (eq-eqb m.kind 26 is))

  -- that of any other node, by its word and by what the match knows of its kind
  pub word-arm : {Key : ℕ → Type 0} {kind question r : ℕ} {roles : Roles} {source : Source} {word m : Node} {before now after : List ℕ} {used : Bool}
      (guard : Node → ℕ)
      → ((k : ℕ) → Key k → Named k roles)
      → (n < nodes (decode table) → node_fits (decode table) n ≡ true → (reading : Reading (decode table) n (n + 1)) → FactsTo (decode table) reading.counts n (facts_plane before)
      → Key (node_at (decode table) n).kind
      → Judges (decode table) reading.counts n (facts_plane before) source question (guard (node_at (decode table) n)))
      → ((k : ℕ) → Key k → k ≡ 26 → ⊥)
      → length before ≡ all_planes
      → word ≡ node_at (decode table) n
      → kind ≡ word.kind
      → Key kind
      → m ≡ word
      → Fields (decode table) v m roles before now used
      → Settled (decode table) v m used source question (guard m) now after r
      → Visited (decode table) v before after r
  word-arm {Key} {kind} {question} {r} {roles} {source} {word} {m} {before} {now} {after} {used} guard named judges other size here is key
      node f s =
      let same : m ≡ node_at (decode table) n = node ∙ here in
      let key_here : Key (node_at (decode table) n).kind = rw (is ∙ ap (λ (m : Node). m.kind) here) at key in
      let key-node : Key m.kind = rw (← same) at key_here in
      arm m roles source question (guard m) r before now now after used same (named m.kind key-node)
      (λ inside fits reading known. rw same (judges inside fits reading known key_here)) size f (kept-none used now f.size) s
      (λ e. simp (ne_eqb m.kind 26 (other m.kind key-node)))

  -- a kind that is not known
  pub no_arm : (before : List ℕ) → length before ≡ all_planes → kind_known (decode table) n ≡ false → Visited (decode table) v before before 0
  no_arm before size unknown =
      record {
        size = size;
        same = λ e. refl;
        stuck = λ e all.
            stuck-kind (decode table) v (used_plane before) (omega (arith, low, sized.nodes-read, sized.nodes-high)) unknown;
        taken = λ found. absurd (found refl);
        called = λ found. absurd (found refl);
        noted = λ found. absurd (found refl);
        facts = λ found. absurd (found refl);
      }

-- no other source is that of a call
abbrev pub is_called : Source → Bool
is_called Never = false
is_called Always = false
is_called Unflagged = false
is_called Flagged = false
is_called Called = true
is_called OfA = false
is_called OfB = false
is_called OfAOrB = false
is_called OfBOrC = false

pub uncalled : {source : Source} {A : Type 0} → is_called source ≡ false → source ≡ Called → A
uncalled other called = never (sym (ap is_called called) ∙ other)

-- a call that is taken names a procedure
pub called-below : {table : List ℕ} {header : Header} {v : Visit} {m : Node} {before after : List ℕ} {r : Bool} → Sized table header
    → Fields (decode table) v m (three Procedure Unnamed Unnamed) before after r → r ≡ true → m.a < header.procedures
unfolding field_fits
called-below {table} {header} {v} {m} {before} sized f taken =
    let t = three-tests (decode table) (used_plane before) v m (three Procedure Unnamed Unnamed) (f.taken taken).free in
    let fits : ltb m.a (procedures (decode table)) ≡ true = free-fits (decode table) (used_plane before) v Procedure m.a t.a in
    omega (arith, ltb-true m.a (procedures (decode table)) fits, sized.procedures-read)

-- what the match leaves once no arm before fits

more_than : {k n : ℕ} → n ≤ k → (k ≡ n → ⊥) → n + 1 ≤ k
more_than at_least_lem other = omega arith

pub operation-kind : {k : ℕ} → (k ≡ 0 → ⊥) → (k ≡ 1 → ⊥) → ((k ≡ 2) ⊎ (k ≡ 23) → ⊥) → ((k ≡ 3) ⊎ (k ≡ 16) → ⊥)
    → (k ≡ 4 → ⊥) → (k ≡ 5 → ⊥) → k < 13
    → (k ≡ 6) ⊎ ((k ≡ 7) ⊎ ((k ≡ 8) ⊎ ((k ≡ 9) ⊎ ((k ≡ 10) ⊎ ((k ≡ 11) ⊎ (k ≡ 12))))))
operation-kind {k} no0 no1 no2 no3 no4 no5 few =
    let least : 1 ≤ k = more_than (omega arith) no0 in
    let over1 = more_than least no1 in
    let over2 = more_than over1 (λ e. no2 (inl e)) in
    let over3 = more_than over2 (λ e. no3 (inl e)) in
    let over4 = more_than over3 no4 in
    let over5 = more_than over4 no5 in
    elim (ℕ_discrete k 6) [
      | yes e ↦ inl e
      | no a ↦ inr (elim (ℕ_discrete k 7) [
        | yes e ↦ inl e
        | no b ↦ inr (elim (ℕ_discrete k 8) [
          | yes e ↦ inl e
          | no c ↦ inr (elim (ℕ_discrete k 9) [
            | yes e ↦ inl e
            | no d ↦ inr (elim (ℕ_discrete k 10) [
              | yes e ↦ inl e
              | no f ↦ inr (elim (ℕ_discrete k 11) [
                | yes e ↦ inl e
                | no g ↦
                    let over10 = more_than (more_than (more_than (more_than (more_than over5 a) b) c) d) f in
                    inr (omega (arith, more_than over10 g))
              ])
            ])
          ])
        ])
      ])
    ]

pub unnamed-kind : {k : ℕ} → ((k ≡ 2) ⊎ (k ≡ 23) → ⊥) → ((k ≡ 3) ⊎ (k ≡ 16) → ⊥) → (k ≡ 17 → ⊥) → (k ≡ 18 → ⊥)
    → (k ≡ 19 → ⊥) → (k ≡ 20 → ⊥) → (k ≡ 21 → ⊥) → (k ≡ 22 → ⊥) → (k ≡ 24 → ⊥) → (k ≡ 25 → ⊥) → (k ≡ 26 → ⊥) → 13 ≤ k
    → known_kind k ≡ false
unnamed-kind {k} no2 no3 no17 no18 no19 no20 no21 no22 no24 no25 no26 many =
    elim (dec_lt k 16) [
      | yes low ↦ simp (lt-leb k 12 (omega arith), lt-leb 16 k low)
      | no high ↦
          let over16 = more_than (omega arith) (λ (e : k ≡ 16). no3 (inr e)) in
          let over19 = more_than (more_than (more_than over16 no17) no18) no19 in
          let over22 = more_than (more_than (more_than over19 no20) no21) no22 in
          let over25 = more_than (more_than (more_than over22 (λ e. no2 (inr e))) no24) no25 in
          let over26 = more_than over25 no26 in
          simp (lt-leb k 12 (omega arith), lt-leb k 26 (omega arith), and-false)
    ]
