-- Two tables that pass 2 to 12 and 26 join into one that does, and it says the joined program.
use mathlib.Core.Bool.{Bool, true, false, not, ◌||◌}
use mathlib.Core.Path.{◌≡◌, refl, sym, ◌∙◌, ap, subst}
use Prim.Native.Nat.{ℕ, ◌+◌, ◌-◌, ◌≤◌, ◌<◌}
use native.Mathlib.Omega.{arith}
use lib.Dec.{ltb}
use borrow.Author.Tests.{eq-eqb, lt-ltb}
use Rattle.linker.specs.Linking.{part_at, renumbered, renamed, linked}
use Rattle.rules.specs.declared.Node.{Node}
use Rattle.rules.specs.Answers.{Accepted}
use Rattle.rules.specs.Encoding.{encode, Encodable, Bounded}
use Rattle.rules.specs.Table.{Program, decode, procedures, nodes, body, node_at, unpacked}
use Rattle.rules.specs.Table.{expression_of, statement_of, expression_at, statement_at}
use Rattle.rules.specs.Table.{Statement, nothing, assign, sequence, branch, loop, call, latch, collective, leave}
use Rattle.rules.specs.WellFormed.{question7, question8, question9, question10, question11, question12, question26}
use Rattle.rules.specs.WellFormed.{is_statement, kind_known, unnamed_zero, node_fits, parts_at, uses, occurrences, used_once}
use Rattle.rules.specs.WellFormed.{in_tree, called_below, leave_enclosed, formed_by, well_formed}
use Rattle.rules.proofs.AnswerLaws.{each-accepted}
use Rattle.rules.proofs.ChoiceLaws.{all_true}
use Rattle.rules.proofs.EncodingLaws.{decode-encode}
use Rattle.rules.proofs.Formed.{Formed, formed}
use Rattle.rules.proofs.HomeLaws.{calls-body, call_below}
use Rattle.rules.proofs.PartLaws.{part_low, tree_low}
use Rattle.rules.proofs.WrittenLaws.{well-written}
use Rattle.linker.proofs.EmbedLaws.{kind-to, statement-to, is_statement-to, known-to, fits-to, tree_down, enclosed-to}
use Rattle.linker.proofs.LinkCounts.{library_once, program-once}
use Rattle.linker.proofs.LinkEmbeds.{itself, library_embeds, program_embeds}
use Rattle.linker.proofs.LinkLaws.{Links, in_library, in_program, link-variables, link-procedures, link-nodes, stubs-below}
use Rattle.linker.proofs.LinkLaws.{flagged-own, flag_program, body_library, body-program, body-past, body-high}
use Rattle.linker.proofs.LinkLaws.{node_library, node-program, node-behind, renumbered-past, by-node, by-procedure}
use Rattle.linker.proofs.RenameLaws.{rename_statement, Fields, renames, fields_renamed}

implies : (s t : Bool) → (s ≡ true → t ≡ true) → (not s || t) ≡ true
implies true t f = f refl
implies false t f = refl

-- a call that is below every procedure whose tree holds it
called-by : (program : Program) (to : ℕ → ℕ) (n : ℕ) (s : Statement)
    → ((q p : ℕ) → s ≡ call q → p < procedures program → in_tree program n (body program p) ≡ true → q < p)
    → called_below program n (rename_statement to s) ≡ true
unfolding called_below rename_statement
called-by program to n nothing h = refl
called-by program to n (assign a b) h = refl
called-by program to n (sequence a b) h = refl
called-by program to n (branch a b c) h = refl
called-by program to n (loop a b) h = refl
called-by program to n (call q) h =
    all_true (λ p. not (in_tree program n (body program p)) || ltb q p) (procedures program)
    (λ p l. implies _ _ (λ i. lt-ltb q p (h q p refl l i)))
called-by program to n (latch a b) h = refl
called-by program to n (collective k) h = refl
called-by program to n leave h = refl

-- a node that is all 0 has no parts
renamed_blank : (to : ℕ → ℕ) → renamed to (unpacked 0) ≡ unpacked 0
unfolding renamed part_at unpacked expression_of statement_of
renamed_blank to = refl

module _ {library program : Program} (k : Links library program) where
  abbrev J : Program
  J = linked library program

  abbrev to : ℕ → ℕ
  to = renumbered library program

  -- 7 to 12 and 26

  passes7 : question7 J ≡ Accepted
  passes7 =
      each-accepted 7 (nodes J) (kind_known J)
      (by-node k (λ n. kind_known J n ≡ true)
      (λ n l. known-to (library_embeds k) n (omega arith) l ∙ (in_library k).known n l)
      (λ n h l. known-to (program_embeds k) n h l ∙ (in_program k).known n l))

  passes8 : question8 J ≡ Accepted
  passes8 =
      each-accepted 8 (nodes J) (λ n. unnamed_zero (node_at J n))
      (by-node k (λ n. unnamed_zero (node_at J n) ≡ true)
      (λ n l. ap unnamed_zero (node_library k n l) ∙ k.of_library.unnamed-zero n l)
      (λ n h l. ap unnamed_zero (node-program k n h) ∙ (renames to (node_at program n)).2 (k.of_program.unnamed-zero n l)))

  passes9 : question9 J ≡ Accepted
  passes9 =
      each-accepted 9 (nodes J) (node_fits J)
      (by-node k (λ n. node_fits J n ≡ true) (λ n l. fits-to (library_embeds k) n (omega arith) l) (fits-to (program_embeds k)))

  passes10 : question10 J ≡ Accepted
  passes10 =
      each-accepted 10 (procedures J) (λ p. is_statement J (body J p))
      (by-procedure k (λ p. is_statement J (body J p) ≡ true)
      (λ p l.
      ap (is_statement J) (body_library k p l)
      ∙ is_statement-to (library_embeds k) (body library p) (omega arith) ((in_library k).body_below p l)
      ∙ (in_library k).body-statement p l)
      (λ p h l.
      ap (is_statement J) (body-program k p h l)
      ∙ is_statement-to (program_embeds k) (body program p) (body-high k p h l) ((in_program k).body_below p l)
      ∙ (in_program k).body-statement p l))

  passes11 : question11 J ≡ Accepted
  unfolding used_once
  passes11 =
      each-accepted 11 (nodes J) (used_once J)
      (λ n l.
      eq-eqb (occurrences n (uses J)) 1
      (by-node k (λ x. occurrences x (uses J) ≡ 1) (library_once k) (program-once k) n l))

  -- the library's calls, and the program's
  library_calls : (n q : ℕ) → n < nodes library → statement_at library n ≡ call q → (p : ℕ) → p < procedures J
      → in_tree J n (body J p) ≡ true → q < p
  library_calls n q l s =
      by-procedure k (λ p. in_tree J n (body J p) ≡ true → q < p)
      (λ p b i.
      calls-body library (in_library k) p b n q
      (tree_down (library_embeds k) n (body library p) (omega arith) (omega arith) ((in_library k).body_below p b)
      (rw (body_library k p b) at i))
      s)
      (λ p h b i. omega (arith, call_below library (in_library k) n q s))

  program-calls : (n q : ℕ) → procedures library ≤ n → n < nodes program → statement_at program n ≡ call q → (p : ℕ)
      → p < procedures J → in_tree J (to n) (body J p) ≡ true → q < p
  program-calls n q g l s =
      by-procedure k (λ p. in_tree J (to n) (body J p) ≡ true → q < p)
      (λ p b i.
      let low = tree_low J (to n) (body J p) i in
      absurd (omega (arith, body_library k p b, (in_library k).body_below p b, renumbered-past library program n)))
      (λ p h b i.
      calls-body program (in_program k) p b n q
      (tree_down (program_embeds k) n (body program p) g (body-high k p h b) ((in_program k).body_below p b)
      (rw (body-program k p h b) at i))
      s)

  passes12 : question12 J ≡ Accepted
  passes12 =
      each-accepted 12 (nodes J) (λ n. called_below J n (statement_at J n))
      (by-node k (λ n. called_below J n (statement_at J n) ≡ true)
      (λ n l.
      ap (called_below J n) (statement-to (library_embeds k) n (omega arith) l)
      ∙ called-by J itself n (statement_at library n) (λ q p s. library_calls n q l s p))
      (λ n h l.
      ap (called_below J (to n)) (statement-to (program_embeds k) n h l)
      ∙ called-by J to (to n) (statement_at program n) (λ q p s. program-calls n q h l s p)))

  passes26 : question26 J ≡ Accepted
  passes26 =
      each-accepted 26 (nodes J) (leave_enclosed J)
      (by-node k (λ n. leave_enclosed J n ≡ true)
      (λ n l. enclosed-to (library_embeds k) n (omega arith) l (k.of_library.leaves-enclosed n l))
      (λ n h l. enclosed-to (program_embeds k) n h l (k.of_program.leaves-enclosed n l)))

  formed-by : formed_by J ≡ Accepted
  unfolding formed_by
  formed-by = simp (passes7, passes8, passes9, passes10, passes11, passes12, passes26)

  -- what questions 3, 5 and 6 ask, and what the bits have room for

  nodes-few : nodes J ≤ 256
  unfolding nodes linked
  nodes-few = k.few

  bounds : Bounded J
  bounds =
      let counts = link-variables k in
      record {
        variables-low = omega (arith, (in_library k).variables-low);
        variables-high = omega (arith, (in_library k).variables-high, (in_program k).variables-high);
        procedures-low = omega (arith, link-procedures k, (in_program k).procedures-low);
        procedures-high = omega (arith, link-procedures k, (in_program k).procedures-high);
        nodes-low = omega (arith, link-nodes k, (in_library k).nodes-low);
        nodes-high = nodes-few;
        flags_off = λ a h. flagged-own k a (omega arith) ∙ k.of_program.bounds.flags_off a (omega arith);
        bodies-below =
            by-procedure k (λ p. body J p < nodes J)
            (λ p l. omega (arith, body_library k p l, (in_library k).body_below p l, link-nodes k))
            (λ p h l.
            rw (body-program k p h l)
            ((program_embeds k).nodes_in (body program p) (body-high k p h l) ((in_program k).body_below p l)));
      }

  abbrev Small : Node → Type 0
  Small = Fields (λ x. x < 512)

  -- the program's fields, renumbered
  fields_to : (n : ℕ) → procedures library ≤ n → n < nodes program → Small (renamed to (node_at program n))
  unfolding parts_at expression_at statement_at
  fields_to n h l =
      fields_renamed to (λ x. x < 512) (node_at program n) (k.of_program.fit.fields_fit n l)
      (λ x i.
      let low = part_low program (in_program k) n x i in
      omega (arith, nodes-few, (program_embeds k).nodes_in x ((program_embeds k).parts_first n x i) (omega arith)))

  pub linked-fit : Encodable (linked library program)
  linked-fit =
      let high = bounds.variables-high in
      record {
        variables-fit = omega arith;
        procedures-fit = omega (arith, bounds.procedures-high);
        nodes-fit = omega (arith, nodes-few);
        flags-past = λ a h. bounds.flags_off a (omega arith);
        bodies-fit = λ p l. omega (arith, bounds.bodies-below p l, nodes-few);
        bodies-past = λ p h. body-past k p (omega (arith, link-procedures k));
        effects_past = λ p h.
            flag_program k p ∙ k.of_program.fit.effects_past p (omega (arith, link-procedures k));
        kinds_fit =
            by-node k (λ n. (node_at J n).kind < 32)
            (λ n l. omega (arith, kind-to (library_embeds k) n (omega arith) l, k.of_library.fit.kinds_fit n l))
            (λ n h l. omega (arith, kind-to (program_embeds k) n h l, k.of_program.fit.kinds_fit n l));
        fields_fit =
            by-node k (λ n. Small (node_at J n))
            (λ n l. subst Small (sym (node_library k n l)) (k.of_library.fit.fields_fit n l))
            (λ n h l. subst Small (sym (node-program k n h)) (fields_to n h l));
        nodes-past = λ n h.
            let size = link-nodes k in
            let stubs = stubs-below k in
            node-behind k n (omega arith)
            ∙ ap (renamed to) ((in_program k).past (procedures library + (n - nodes library)) (omega arith))
            ∙ renamed_blank to;
      }

  pub linked-read : decode (encode (linked library program)) ≡ linked library program
  linked-read = decode-encode J linked-fit

  pub linked-formed : well_formed (encode (linked library program)) ≡ Accepted
  linked-formed = well-written J linked-fit bounds ∙ formed-by

  pub linked-whole : Formed (linked library program)
  linked-whole = rw linked-read at (formed (encode J) linked-formed)
