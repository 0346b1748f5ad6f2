-- What the questions of a joining say, and what the joined program is: the library's procedures, nodes and flags as they are, the
-- program's renumbered.
use mathlib.Core.Bool.{Bool, true, false, beq, ◌&&◌, ◌||◌}
use mathlib.Core.List.{List}
use mathlib.Core.Path.{◌≡◌, refl, sym, ◌∙◌, ap, subst}
use Prim.Native.Nat.{ℕ, ◌+◌, ◌-◌, ◌≤◌, ◌<◌, min, max}
use native.Mathlib.Decide.{dec_lt}
use native.Mathlib.Omega.{arith}
use lib.Dec.{leb, ltb, eqb}
use borrow.Author.Tests.{leb-true, ltb-true, eqb-true, lt-ltb, le-ltb, lt-leb}
use Rattle.std.specs.Prelude.{Ok, Err}
use Rattle.linker.specs.Linking.{Link, Joined, stub, procedure_links, flags_agree, joined_nodes, renumbered, renamed, linked}
use Rattle.linker.specs.Linking.{question27, question28, ask_library, ask_program, joinable}
use Rattle.rules.specs.Answers.{Verdict, Accepted}
use Rattle.rules.specs.Encoding.{Encodable, Bounded}
use Rattle.rules.specs.Table.{Program, decode, variables, procedures, nodes, flagged, body, effect_flag}
use Rattle.rules.specs.Table.{node_at, statement_at, nothing}
use Rattle.rules.specs.WellFormed.{unnamed_zero, parts_at, leave_enclosed, question26, well_built, well_formed}
use Rattle.rules.proofs.AnswerLaws.{both_left, both_right, then_first, then_rest, ask_holds, each-passed}
use Rattle.rules.proofs.AnywhereLaws.{In}
use Rattle.rules.proofs.EncodingLaws.{encodable, bounded}
use Rattle.rules.proofs.Formed.{Formed, formed, well-passes}
use Rattle.rules.proofs.KindLaws.{nothing_of}
use Rattle.rules.proofs.LoopLaws.{part-no_body, one-body}

-- what a table that passes 2 to 12 and 26 says
pub record Sound (program : Program) : Type 0 where
  pub whole : Formed program
  pub unnamed-zero : (n : ℕ) → n < nodes program → unnamed_zero (node_at program n) ≡ true
  pub leaves-enclosed : (n : ℕ) → n < nodes program → leave_enclosed program n ≡ true
  pub fit : Encodable program
  pub bounds : Bounded program

pub sound : (table : List ℕ) → well_formed table ≡ Accepted → Sound (decode table)
unfolding well_formed
sound table e =
    record {
      whole = formed table e;
      unnamed-zero = (well-passes table e).unnamed;
      leaves-enclosed =
          each-passed 26 (nodes (decode table)) (leave_enclosed (decode table))
          (then_rest (well_built table) (question26 (decode table)) e);
      fit = encodable table e;
      bounds = bounded table e;
    }

-- what the questions of a joining say, once each is passed
pub record Links (library program : Program) : Type 0 where
  pub of_library : Sound library
  pub of_program : Sound program
  pub left : procedures library < procedures program
  pub stubs : (p : ℕ) → p < procedures library → stub library program p ≡ true
  pub agree : (v : ℕ) → v < min (variables library) (variables program) → flags_agree library program v ≡ true
  pub few : joined_nodes library program ≤ 256

library_passed : (v : Verdict) (next : Link) → ask_library v next ≡ Joined → (v ≡ Accepted) × (next ≡ Joined)
library_passed (Ok _) next e = (refl, e)
library_passed (Err r) next e = let z : ◌≡◌ {A = ℕ} 0 1 = cc in absurd (omega arith)

pub program-passed : (v : Verdict) → ask_program v ≡ Joined → v ≡ Accepted
program-passed (Ok _) e = refl
program-passed (Err r) e = let z : ◌≡◌ {A = ℕ} 0 1 = cc in absurd (omega arith)

either-false : (s t : Bool) → s ≡ false → (s || t) ≡ true → t ≡ true
either-false true t e f = let z : ◌≡◌ {A = ℕ} 0 1 = cc in absurd (omega arith)
either-false false t e f = f

pub both_formed : (library program : List ℕ) → joinable library program ≡ Joined
    → (well_formed library ≡ Accepted) × (well_formed program ≡ Accepted)
unfolding joinable
both_formed library program e =
    let (well, next) = library_passed (well_formed library) _ e in
    (well, then_first (well_formed program) _ (program-passed _ next))

pub links : (library program : List ℕ) → joinable library program ≡ Joined → Links (decode library) (decode program)
unfolding joinable procedure_links
links library program e =
    let l = decode library in
    let p = decode program in
    let formed = both_formed library program e in
    let rest = program-passed _ (library_passed (well_formed library) _ e).1 in
    let after = then_rest (well_formed program) _ rest in
    let after27 = then_rest (question27 l p) _ after in
    let p27 = each-passed 27 (1 + procedures l) (procedure_links l p) (then_first (question27 l p) _ after) in
    record {
      of_library = sound library formed.0;
      of_program = sound program formed.1;
      left = ltb-true (procedures l) (procedures p) (both_left _ _ (p27 (procedures l) (omega arith)));
      stubs = λ q b.
          either-false (leb (procedures l) q) (stub l p q) (lt-leb (procedures l) q b)
          (both_right (ltb q (procedures p)) _ (p27 q (omega arith)));
      agree = each-passed 28 _ (flags_agree l p) (then_first (question28 l p) _ after27);
      few = leb-true (joined_nodes l p) 256 (ask_holds 29 _ (then_rest (question28 l p) _ after27));
    }

same_flags : (s t : Bool) → beq s t ≡ true → s ≡ t
same_flags true true e = refl
same_flags true false e = sym e
same_flags false true e = e
same_flags false false e = refl

-- numbers of nodes there and back

module _ (library program : Program) (n : ℕ) where
  pub renumbered-past : nodes library ≤ renumbered library program n
  unfolding renumbered
  renumbered-past = omega arith

  pub renumbered-back : procedures library ≤ n → procedures library + (renumbered library program n - nodes library) ≡ n
  unfolding renumbered
  renumbered-back h = omega arith

  pub renumbered-at : nodes library ≤ n → renumbered library program (procedures library + (n - nodes library)) ≡ n
  unfolding renumbered
  renumbered-at h = omega arith

module _ {library program : Program} (k : Links library program) where
  abbrev J : Program
  J = linked library program

  pub in_library : Formed library
  in_library = k.of_library.whole

  pub in_program : Formed program
  in_program = k.of_program.whole

  -- counts

  pub link-variables : variables (linked library program) ≡ max (variables library) (variables program)
  unfolding variables linked
  link-variables = refl

  pub link-procedures : procedures (linked library program) ≡ procedures program
  unfolding procedures linked
  link-procedures = refl

  pub link-nodes : nodes (linked library program) ≡ nodes library + (nodes program - procedures library)
  unfolding nodes linked joined_nodes
  link-nodes = refl

  -- stubs

  abbrev body_kept : ℕ → Bool
  body_kept p = eqb (body program p) p

  abbrev kind_kept : ℕ → Bool
  kind_kept p = eqb (node_at program p).kind 16

  pub stub-body : (p : ℕ) → p < procedures library → body program p ≡ p
  unfolding stub
  stub-body p l = eqb-true _ _ (both_left (body_kept p) (kind_kept p) (both_left _ _ (k.stubs p l)))

  pub stub-kind : (p : ℕ) → p < procedures library → (node_at program p).kind ≡ 16
  unfolding stub
  stub-kind p l = eqb-true _ _ (both_right (body_kept p) (kind_kept p) (both_left _ _ (k.stubs p l)))

  pub stub_flag : (p : ℕ) → p < procedures library → effect_flag library p ≡ effect_flag program p
  unfolding stub
  stub_flag p l = same_flags _ _ (both_right (body_kept p && kind_kept p) _ (k.stubs p l))

  pub stub-nothing : (p : ℕ) → p < procedures library → statement_at program p ≡ nothing
  unfolding statement_at
  stub-nothing p l = nothing_of (node_at program p) (stub-kind p l)

  -- the program has a node for each stub
  pub stubs-below : procedures library ≤ nodes program
  stubs-below =
      let low = in_library.procedures-low in
      let left = k.left in
      let p = procedures library - 1 in
      omega (arith, stub-body p (omega arith), in_program.body_below p (omega arith))

  -- the program's parts and its other bodies are no stubs
  pub part-high : (n a : ℕ) → In a (parts_at program n) → procedures library ≤ a
  part-high n a i =
      elim (dec_lt a (procedures library)) [
        | yes l ↦
            let left = k.left in
            absurd (part-no_body program in_program n a (omega arith) (rw (stub-body a l) i))
        | no m ↦ omega arith
      ]

  pub body-high : (p : ℕ) → procedures library ≤ p → p < procedures program → procedures library ≤ body program p
  body-high p h l =
      elim (dec_lt (body program p) (procedures library)) [
        | yes b ↦ absurd (one-body program in_program (body program p) p (omega arith) l (stub-body (body program p) b))
        | no m ↦ omega arith
      ]

  -- flags

  pub flagged_library : (v : ℕ) → v < variables library → flagged (linked library program) v ≡ flagged library v
  unfolding linked flagged
  flagged_library v l = simp (lt-ltb v (variables library) l)

  pub flagged-own : (v : ℕ) → variables library ≤ v → flagged (linked library program) v ≡ flagged program v
  unfolding linked flagged
  flagged-own v h = simp (le-ltb v (variables library) h)

  pub flagged-program : (v : ℕ) → v < variables program → flagged (linked library program) v ≡ flagged program v
  unfolding flags_agree
  flagged-program v l =
      elim (dec_lt v (variables library)) [
        | yes b ↦ flagged_library v b ∙ same_flags _ _ (k.agree v (omega arith))
        | no m ↦ flagged-own v (omega arith)
      ]

  -- procedures

  pub body_library : (p : ℕ) → p < procedures library → body (linked library program) p ≡ body library p
  unfolding linked body
  body_library p l = simp (lt-ltb p (procedures library) l)

  pub body-program : (p : ℕ) → procedures library ≤ p → p < procedures program
      → body (linked library program) p ≡ renumbered library program (body program p)
  unfolding linked body
  body-program p h l = simp (le-ltb p (procedures library) h, lt-ltb p (procedures program) l)

  pub body-past : (p : ℕ) → procedures program ≤ p → body (linked library program) p ≡ 0
  unfolding linked body
  body-past p h = simp (le-ltb p (procedures library) (omega (arith, k.left)), le-ltb p (procedures program) h)

  pub flag_library : (p : ℕ) → p < procedures library → effect_flag (linked library program) p ≡ effect_flag library p
  unfolding linked effect_flag
  flag_library p l = simp (lt-ltb p (procedures library) l)

  pub flag_own : (p : ℕ) → procedures library ≤ p → effect_flag (linked library program) p ≡ effect_flag program p
  unfolding linked effect_flag
  flag_own p h = simp (le-ltb p (procedures library) h)

  pub flag_program : (p : ℕ) → effect_flag (linked library program) p ≡ effect_flag program p
  flag_program p =
      elim (dec_lt p (procedures library)) [ yes h ↦ flag_library p h ∙ stub_flag p h | no m ↦ flag_own p (omega arith) ]

  -- nodes

  pub node_library : (n : ℕ) → n < nodes library → node_at (linked library program) n ≡ node_at library n
  unfolding linked node_at
  node_library n l = simp (lt-ltb n (nodes library) l)

  pub node-behind : (n : ℕ) → nodes library ≤ n → node_at (linked library program) n
      ≡ renamed (renumbered library program) (node_at program (procedures library + (n - nodes library)))
  unfolding linked node_at
  node-behind n h = simp (le-ltb n (nodes library) h)

  pub node-program : (n : ℕ) → procedures library ≤ n
      → node_at (linked library program) (renumbered library program n) ≡ renamed (renumbered library program) (node_at program n)
  node-program n h =
      node-behind (renumbered library program n) (renumbered-past library program n)
      ∙ ap (λ i. renamed (renumbered library program) (node_at program i)) (renumbered-back library program n h)

  -- a node of the joined program is the library's or the program's, and so is a procedure
  pub by-node : (P : ℕ → Type 0) → ((n : ℕ) → n < nodes library → P n)
      → ((n : ℕ) → procedures library ≤ n → n < nodes program → P (renumbered library program n))
      → (n : ℕ) → n < nodes (linked library program) → P n
  by-node P own other n l =
      elim (dec_lt n (nodes library)) [
        | yes b ↦ own n b
        | no m ↦
            let size = link-nodes in
            subst P (renumbered-at library program n (omega arith))
            (other (procedures library + (n - nodes library)) (omega arith) (omega arith))
      ]

  pub by-procedure : (P : ℕ → Type 0) → ((p : ℕ) → p < procedures library → P p)
      → ((p : ℕ) → procedures library ≤ p → p < procedures program → P p) → (p : ℕ) → p < procedures (linked library program)
      → P p
  by-procedure P own other p l =
      elim (dec_lt p (procedures library)) [ yes b ↦ own p b | no m ↦ other p (omega arith) (omega (arith, link-procedures)) ]
