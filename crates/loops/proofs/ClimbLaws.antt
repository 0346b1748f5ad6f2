-- The way up from node n: what stands in the same while as n, and is named by no node passed.
use mathlib.Core.Bool.{true, false, cond}
use mathlib.Core.Logic.{⊎_elim}
use mathlib.Core.Path.{◌≡◌, refl, sym, ◌∙◌}
use Prim.Native.Nat.{ℕ, ◌+◌, ◌≤◌, ◌<◌}
use native.Mathlib.Omega.{arith}
use borrow.Author.Count.{below_more}
use Rattle.rules.specs.declared.Node.{Node}
use Rattle.rules.specs.Table.{Program, loop, nodes, node_at, statement_of, statement_at}
use Rattle.rules.specs.WellFormed.{open_parts, nearest_loop}
use Rattle.rules.proofs.ChoiceLaws.{bool_cases}
use Rattle.rules.proofs.Formed.{Formed}
use Rattle.rules.proofs.KindLaws.{statement-here}
use Rattle.rules.proofs.AnywhereLaws.{In}
use Rattle.rules.proofs.LoopLaws.{open_part, body-part, named-below, nearest_part, nearest_body, nearest_none}
use Rattle.rules.proofs.PartLaws.{part_low}
use Rattle.loops.specs.Upward.{has_body, has_part}
use Rattle.loops.proofs.KindTests.{part_of, no_part, body_of, no_body}

-- node k does not have node a as a part in the same while, nor as a while's body
abbrev Apart : Program → ℕ → ℕ → Type 0
Apart program a k = (In a (open_parts (statement_at program k)) → ⊥) × ((b : ℕ) → statement_at program k ≡ loop b a → ⊥)

pub record Climbed (program : Program) (n inner m : ℕ) : Type 0 where
  pub same : nearest_loop program inner ≡ nearest_loop program n
  pub apart : (k : ℕ) → k < m → Apart program inner k

module _ (program : Program) (formed : Formed program) where
  -- parts lie below what names them
  low-apart : (a k : ℕ) → k < a + 1 → Apart program a k
  low-apart a k l = (
    λ i. omega (arith, part_low program formed k a (open_part program formed k a i)),
    λ b s. omega (arith, part_low program formed k a (body-part program formed k b a s)),
  )

  pub climb_start : (n : ℕ) → Climbed program n n (n + 1)
  climb_start n = record { same = refl; apart = low-apart n }

  -- a node of the way is passed
  module _ (n inner m : ℕ) (node : Node) (here : node ≡ node_at program m) (c : Climbed program n inner m) where
    same-statement : statement_at program m ≡ statement_of node
    same-statement = statement-here program m node here refl

    pub climb_found : has_body node inner ≡ true → m ≡ nearest_loop program n
    climb_found t = sym (nearest_body program formed m node.a inner (same-statement ∙ body_of node inner t)) ∙ c.same

    pub climb_on : has_body node inner ≡ false → Climbed program n (cond (has_part node inner) m inner) (m + 1)
    climb_on f =
        ⊎_elim
        (λ (t : has_part node inner ≡ true).
        let part = rw (← same-statement) at (part_of node inner t) in
        simp t (record { same = sym (nearest_part program formed m inner part) ∙ c.same; apart = low-apart m }))
        (λ (t : has_part node inner ≡ false).
        let next : Apart program inner m = rw same-statement (no_part node inner t, no_body node inner f) in
        simp t (record { same = c.same; apart = below_more (Apart program inner) m c.apart next }))
        (bool_cases (has_part node inner))

  -- no node names what is left at the end
  pub climb_end : (n inner m : ℕ) → Climbed program n inner m → nodes program ≤ m → nodes program ≡ nearest_loop program n
  climb_end n inner m c l =
      sym (nearest_none program formed inner
      (λ k i. (c.apart k (omega (arith, named-below program formed k inner (open_part program formed k inner i)))).0 i)
      (λ k a s. (c.apart k (omega (arith, named-below program formed k inner (body-part program formed k a inner s)))).1 a s))
      ∙ c.same
