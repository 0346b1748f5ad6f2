-- What is claimed of a joined table: its length, what it says, that it is well formed, and that two accepted tables join into an
-- accepted one.
use mathlib.Core.Bool.{true, not, ◌||◌}
use mathlib.Core.List.{List}
use mathlib.Core.Path.{◌≡◌, refl, sym, ◌∙◌, ap}
use Prim.Native.Nat.{ℕ, ◌≤◌, ◌<◌}
use native.Mathlib.Omega.{arith}
use lib.ListN.{length}
use borrow.Author.Tests.{eqb-true, eq-eqb}
use Rattle.std.specs.Prelude.{Ok, Err}
use Rattle.linker.specs.Linking.{Link, Joined}
use Rattle.linker.specs.Joins.{KeepsLength, LengthTold, SaysJoined, FormedJoin, AcceptedJoin}
use Rattle.linker.specs.Linking.{renumbered, linked, joined_bytes, on_joined, joinable, link_answer, link_output, joined_length}
use Rattle.rules.specs.Answers.{Accepted}
use Rattle.rules.specs.Acceptance.{rule_of, question1, body_flagged, judged, checked}
use Rattle.rules.specs.Encoding.{word_of, encode}
use Rattle.rules.specs.Judgement.{counted}
use Rattle.rules.specs.Table.{Program, decode, procedures, nodes, body, effect_flag}
use Rattle.rules.specs.WellFormed.{well_formed}
use Rattle.rules.proofs.AnswerLaws.{then_first, then_rest, ask_holds}
use Rattle.rules.proofs.EncodingLaws.{bytes-length}
use Rattle.rules.proofs.FormerLaws.{still_flagged}
use Rattle.rules.proofs.Judged.{Judged, judged-facts, passed-judged}
use Rattle.rules.proofs.LiveLaws.{effectful}
use Rattle.linker.proofs.EmbedJudged.{effect_down, rule-to}
use Rattle.linker.proofs.LinkEmbeds.{library_embeds, program_embeds}
use Rattle.linker.proofs.LinkFormed.{linked-read, linked-formed, linked-whole}
use Rattle.linker.proofs.LinkLaws.{Links, links, program-passed, in_library, in_program, by-node, by-procedure}
use Rattle.linker.proofs.LinkLaws.{body_library, body-program, body-high, flag_library, flag_program}

-- the answer

both_joined : (v w : Link) → on_joined v w (λ refusal. refusal) ≡ Joined → (v ≡ Joined) × (w ≡ Joined)
both_joined (Ok _) w e = (refl, e)
both_joined (Err r) w e = let z : ◌≡◌ {A = ℕ} 0 1 = cc in absurd (omega arith)

told : (v : Link) (n : ℕ) → 1 ≤ on_joined v n (λ refusal. 0) → v ≡ Joined
told (Ok _) n h = refl
told (Err r) n h = absurd (omega arith)

module _ (library program output : List ℕ) where
  abbrev bytes : ℕ
  bytes = joined_bytes (decode library) (decode program)

  -- a joining that is not refused writes the joined table, for which the output has room
  module _ (e : link_answer library program output ≡ Joined) where
    passed : (joinable library program ≡ Joined) × (length output ≡ bytes)
    unfolding link_answer
    passed =
        let (asked, room) = both_joined (joinable library program) _ e in
        (asked, eqb-true (length output) bytes (ask_holds 29 _ (program-passed _ room)))

    output_is : link_output library program output ≡ encode (linked (decode library) (decode program))
    unfolding link_output
    output_is = rw e

    joins : Links (decode library) (decode program)
    joins = links library program passed.0

  length-by : (v : Link) → link_answer library program output ≡ v
      → length (on_joined v (encode (linked (decode library) (decode program))) (λ refusal. output)) ≡ length output
  unfolding encode linked procedures nodes
  length-by (Ok _) e = bytes-length (word_of (linked (decode library) (decode program))) _ ∙ sym (passed e).1
  length-by (Err r) e = refl

pub keeps_length : KeepsLength
unfolding link_output
keeps_length library program output = length-by library program output (link_answer library program output) refl

pub length-told : LengthTold
unfolding joined_length link_answer
length-told library program output = (
  λ e. let (asked, room) = passed library program output e in rw asked (omega arith, room),
  λ h same.
      let asked = told (joinable library program) _ h in
      let room : length output ≡ joined_bytes (decode library) (decode program) = rw asked at same in
      rw asked (simp (eq-eqb (length output) _ room)),
)

pub says_joined : SaysJoined
says_joined library program output e =
    ap decode (output_is library program output e) ∙ linked-read (joins library program output e)

pub formed-join : FormedJoin
formed-join library program output e =
    ap well_formed (output_is library program output e) ∙ linked-formed (joins library program output e)

-- 13 to 17

module _ {library program : Program} (k : Links library program) (own : Judged library) (other : Judged program) where
  abbrev J : Program
  J = linked library program

  abbrev to : ℕ → ℕ
  to = renumbered library program

  rules : (n : ℕ) → n < nodes J → (rule_of J (counted J) (counted J n)).holds ≡ true
  rules =
      by-node k (λ n. (rule_of J (counted J) (counted J n)).holds ≡ true)
      (λ n l. rule-to (library_embeds k) (linked-whole k) own.rule-holds n (omega arith) l)
      (rule-to (program_embeds k) (linked-whole k) other.rule-holds)

  flags : (p : ℕ) → p < procedures J → body_flagged J (counted J) p ≡ true
  unfolding body_flagged
  flags =
      by-procedure k (λ p. (not (effectful J (body J p)) || effect_flag J p) ≡ true)
      (λ p l.
      rw (body_library k p l, flag_library k p l)
      (still_flagged _ _ _
      (effect_down (library_embeds k) (linked-whole k) (body library p) (omega arith) ((in_library k).body_below p l))
      (own.body-flagged p l)))
      (λ p h l.
      rw (body-program k p h l, flag_program k p)
      (still_flagged _ _ _
      (effect_down (program_embeds k) (linked-whole k) (body program p) (body-high k p h l) ((in_program k).body_below p l))
      (other.body-flagged p l)))

  linked-judged : judged (linked library program) ≡ Accepted
  linked-judged = passed-judged J (counted J) (record { rules = rules; flags = flags })

pub accepted-join : AcceptedJoin
unfolding checked
accepted-join library program output scratch l p e =
    let k = joins library program output e in
    let one = then_first (question1 scratch) _ l in
    let library-judged = then_rest (well_formed library) _ (then_rest (question1 scratch) _ l) in
    let program-judged = then_rest (well_formed program) _ (then_rest (question1 scratch) _ p) in
    simp (one, formed-join library program output e, says_joined library program output e)
    (linked-judged k (judged-facts (decode library) (in_library k) library-judged)
    (judged-facts (decode program) (in_program k) program-judged))
