-- The library's nodes stand in the joined program as they are, the program's from its first node that is no stub on renumbered.
use mathlib.Core.Bool.{Bool, true, false, cond}
use mathlib.Core.Path.{◌≡◌, refl, sym, ◌∙◌}
use Prim.Native.Nat.{ℕ}
use native.Mathlib.Omega.{arith}
use Rattle.linker.specs.Linking.{part_at, renumbered, renamed, linked}
use Rattle.rules.specs.declared.Node.{Node}
use Rattle.rules.specs.Table.{Program, procedures, node_at}
use Rattle.linker.proofs.EmbedLaws.{Embeds}
use Rattle.linker.proofs.LinkLaws.{Links, in_library, in_program, link-variables, link-procedures, link-nodes}
use Rattle.linker.proofs.LinkLaws.{stub-nothing, part-high, flagged_library, flagged-program, flag_library, flag_program}
use Rattle.linker.proofs.LinkLaws.{node_library, node-program}

abbrev pub itself : ℕ → ℕ
itself n = n

cond_same : (test : Bool) (a : ℕ) → cond test a a ≡ a
cond_same true a = refl
cond_same false a = refl

renamed-itself : (m : Node) → renamed itself m ≡ m
unfolding renamed
renamed-itself m =
    rw (cond_same (part_at m 0) m.a, cond_same (part_at m 1) m.b, cond_same (part_at m 2) m.c)

module _ {library program : Program} (k : Links library program) where
  pub library_embeds : Embeds library (linked library program) itself 0
  library_embeds =
      record {
        whole = in_library k;
        node-to = λ n h l. node_library k n l ∙ sym (renamed-itself (node_at library n));
        parts_first = λ n a i. omega arith;
        front = λ n l. absurd (omega arith);
        rises = λ a b h l. l;
        nodes_in = λ n h l. omega (arith, link-nodes k);
        variables_in = omega (arith, link-variables k);
        procedures_in = omega (arith, link-procedures k, k.left);
        flagged-to = flagged_library k;
        flag_to = flag_library k;
      }

  pub program_embeds : Embeds program (linked library program) (renumbered library program) (procedures library)
  unfolding renumbered
  program_embeds =
      record {
        whole = in_program k;
        node-to = λ n h l. node-program k n h;
        parts_first = part-high k;
        front = stub-nothing k;
        rises = λ a b h l. omega arith;
        nodes_in = λ n h l. omega (arith, link-nodes k);
        variables_in = omega (arith, link-variables k);
        procedures_in = omega (arith, link-procedures k);
        flagged-to = flagged-program k;
        flag_to = λ p l. flag_program k p;
      }
