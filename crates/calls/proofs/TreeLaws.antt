-- A procedure's tree from the body down: a node of the tree is the body or a part of a node of the tree.
use mathlib.Core.Bool.{true, false}
use mathlib.Core.List.{List, ◌++◌}
use mathlib.Core.Logic.{◌⊎◌, inl, inr, ⊎_elim}
use mathlib.Core.Path.{◌≡◌, ◌∙◌, ap}
use Prim.Native.Nat.{ℕ, ◌+◌, ◌<◌}
use native.Mathlib.Decide.{dec_lt}
use native.Mathlib.Omega.{arith}
use Rattle.rules.specs.Table.{decode, nodes, node_at}
use Rattle.rules.specs.WellFormed.{parts_at, occurrences, in_tree}
use Rattle.rules.proofs.ChoiceLaws.{bool_cases}
use Rattle.rules.proofs.AnywhereLaws.{In, stands_down, stands-above}
use Rattle.rules.proofs.LeaveLaws.{counted_in}
use Rattle.rules.proofs.LoopLaws.{in_counted, counted_append}
use Rattle.rules.proofs.PartLaws.{tree_low}
use Rattle.table.specs.declared.fields.Role.{Role}
use Rattle.table.specs.Roles.{roles_of, is_part, field_parts}
use Rattle.table.specs.Uses.{Fitting}
use Rattle.table.proofs.FittingLaws.{part-below, fields_fit}
use Rattle.table.proofs.RoleLaws.{parts_law}

-- parts stand below their node
in_field : (k : ℕ) (role : Role) (value : ℕ) → In k (field_parts role value) → (is_part role ≡ true) × (k ≡ value)
unfolding field_parts
in_field k role value h =
    ⊎_elim
    (λ (e : is_part role ≡ true).
    let here : (k ≡ value) ⊎ ⊥ = simp e at h in
    (e, ⊎_elim (λ (same : k ≡ value). same) (λ (none : ⊥). absurd none) here))
    (λ (e : is_part role ≡ false). let none : ⊥ = simp e at h in absurd none)
    (bool_cases (is_part role))

module _ (table : List ℕ) (f : Fitting table) where
  pub part_in_below : (n k : ℕ) → n < nodes (decode table) → In k (parts_at (decode table) n) → k < n
  part_in_below n k l h =
      let m = node_at (decode table) n in
      let fit = fields_fit (decode table) n (f.fits n l) in
      let fa = field_parts (roles_of m.kind).a m.a in
      let fb = field_parts (roles_of m.kind).b m.b in
      let fc = field_parts (roles_of m.kind).c m.c in
      let split : occurrences k (parts_at (decode table) n) ≡ occurrences k fa + (occurrences k fb + occurrences k fc) =
      ap (occurrences k) (parts_law (decode table) n)
      ∙ counted_append fa (fb ++ fc) k
      ∙ ap (λ (x : ℕ). occurrences k fa + x) (counted_append fb fc k) in
      let some = in_counted (parts_at (decode table) n) k h in
      elim (dec_lt 0 (occurrences k fa)) [
        | yes in-a ↦
            let here = in_field k (roles_of m.kind).a m.a (counted_in fa k (omega arith)) in
            omega (arith, here.1, part-below (decode table) n _ _ fit.0 here.0)
        | no not_a ↦
            elim (dec_lt 0 (occurrences k fb)) [
              | yes in_b ↦
                  let here = in_field k (roles_of m.kind).b m.b (counted_in fb k (omega arith)) in
                  omega (arith, here.1, part-below (decode table) n _ _ fit.1 here.0)
              | no not-b ↦
                  let here = in_field k (roles_of m.kind).c m.c (counted_in fc k (omega arith)) in
                  omega (arith, here.1, part-below (decode table) n _ _ fit.2 here.0)
            ]
      ]

  -- a node of the tree of b that is not b is a part of a node of the tree
  pub record Parent (n b : ℕ) : Type 0 where
    pub node : ℕ
    pub inside : node < nodes (decode table)
    pub holds : in_tree (decode table) node b ≡ true
    pub stands : In n (parts_at (decode table) node)

  pub tree_up : (n b : ℕ) → b < nodes (decode table) → in_tree (decode table) n b ≡ true → (n ≡ b) ⊎ Parent n b
  tree_up n b l h =
      ⊎_elim (λ (same : n ≡ b). inl same)
      (λ (found : (m : ℕ) × In n (parts_at (decode table) m) × (in_tree (decode table) m b ≡ true)).
      let (m, i, t) = found in
      inr (record { node = m; inside = omega (arith, tree_low (decode table) m b t); holds = t; stands = i }))
      (stands-above (parts_at (decode table)) n b h)

  pub tree_down : (j k b : ℕ) → b < nodes (decode table) → in_tree (decode table) j b ≡ true → In k (parts_at (decode table) j)
      → in_tree (decode table) k b ≡ true
  tree_down j k b l h stands =
      let low = part_in_below j k (omega (arith, tree_low (decode table) j b h)) stands in
      stands_down (parts_at (decode table)) j k b stands low h
