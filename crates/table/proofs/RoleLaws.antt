-- The roles of a node's fields say the same as the definitions of questions 8, 9 and 11 by kind: one law each, at every kind.
use mathlib.Core.Bool.{true, false, ◌&&◌, and-true, and_assoc}
use mathlib.Core.List.{◌++◌}
use mathlib.Core.Path.{◌≡◌, refl}
use Prim.Native.Nat.{ℕ, zero, suc, ◌-◌, ◌≤◌, ◌<◌}
use native.Mathlib.Decide.{dec_lt, ℕ_discrete}
use native.Mathlib.Omega.{arith}
use lib.Dec.{eqb}
use borrow.Author.Tests.{ne_eqb}
use lib.ListN.{get_or-eq_default}
use Rattle.rules.specs.declared.Node.{Node}
use Rattle.rules.specs.Table.{Program, constant, nothing, node_at, expression_of, statement_of, expression_at, statement_at}
use Rattle.rules.specs.WellFormed.{named_fields, unnamed_zero, expression_fits, statement_fits, node_fits}
use Rattle.rules.specs.WellFormed.{expression_parts, statement_parts, parts_at}
use Rattle.table.specs.declared.fields.Role.{Role}
use Rattle.table.specs.declared.fields.Role.TheVariants.{Unnamed, Variable, Expression, Statement, Procedure, Half, Area}
use Rattle.table.specs.declared.fields.Roles.{Roles}
use Rattle.table.specs.Roles.{three, no_roles, roles, roles_of, field_zero, field_fits, field_parts}

-- the kinds that the roles list: 0 to 26
abbrev pub listed : ℕ
listed = 27

-- P holds of each kind listed, and of those above, so of every kind
pub data Each (P : ℕ → Type 0) : ℕ → Type 0 where
  none : Each P zero
  ◌also◌ : {n : ℕ} → Each P n → P n → Each P (suc n)

infixl 10 ◌also◌
each_below : (P : ℕ → Type 0) (n : ℕ) → Each P n → (k : ℕ) → k < n → P k
each_below P zero none k l = absurd (omega arith)
each_below P (suc n) (earlier also here) k l =
    elim (dec_lt k n) [ yes m ↦ each_below P n earlier k m | no m ↦ let e : k ≡ n = omega arith in rw e here ]

pub each-kind : (P : ℕ → Type 0) → Each P listed → ((k : ℕ) → listed ≤ k → P k) → (k : ℕ) → P k
each-kind P known unknown k = elim (dec_lt k listed) [ yes l ↦ each_below P listed known k l | no m ↦ unknown k (omega arith) ]

abbrev pub node : ℕ → ℕ → ℕ → ℕ → Node
node k a b c = record { kind = k; a = a; b = b; c = c }

-- an unknown kind names nothing
thirteen : ℕ → ℕ
thirteen n = suc (suc (suc (suc (suc (suc (suc (suc (suc (suc (suc (suc (suc n))))))))))))

thirteen-more : (k : ℕ) → 13 ≤ k → k ≡ thirteen (k - 13)
unfolding thirteen
thirteen-more k h = omega arith

module _ (k a b c : ℕ) (h : listed ≤ k) where
  pub expression_unknown : expression_of (node k a b c) ≡ constant 0
  unfolding expression_of thirteen
  expression_unknown = rw (thirteen-more k (omega arith))

  pub statement_unknown : statement_of (node k a b c) ≡ nothing
  unfolding statement_of
  statement_unknown =
      let e : k - 16 ≡ suc (suc (suc (suc (suc (suc (suc (suc (suc (suc (suc (k - listed))))))))))) = omega arith in rw e

roles_unknown : (k : ℕ) → listed ≤ k → roles_of k ≡ no_roles
unfolding roles_of roles
roles_unknown k h = get_or-eq_default roles no_roles {n = k} h

-- the roles of kind k, looked for kind by kind
or_else : (k j : ℕ) {r : Roles} → roles_of j ≡ r → ((k ≡ j → ⊥) → roles_of k ≡ r) → roles_of k ≡ r
or_else k j here other = elim (ℕ_discrete k j) [ yes e ↦ rw e here | no n ↦ other n ]

pub roles-operation : (k : ℕ) → 6 ≤ k → k ≤ 12 → roles_of k ≡ three Expression Expression Unnamed
unfolding roles_of roles
roles-operation k low high =
    or_else k 6 refl (λ a. or_else k 7 refl (λ b. or_else k 8 refl (λ c.
    or_else k 9 refl (λ d. or_else k 10 refl (λ e. or_else k 11 refl (λ f.
    let last : k ≡ 12 = omega (arith, a, b, c, d, e, f) in rw last refl))))))

pub roles-few : (k : ℕ) → k < 4 → (k ≡ 0 → ⊥) → (k ≡ 1 → ⊥) → roles_of k ≡ no_roles
unfolding roles_of roles
roles-few k few a b = or_else k 2 refl (λ c. let last : k ≡ 3 = omega (arith, a, b, c) in rw last refl)

pub roles-none : (k : ℕ) → 13 ≤ k → (k ≡ 17 → ⊥) → (k ≡ 18 → ⊥) → (k ≡ 19 → ⊥) → (k ≡ 20 → ⊥) → (k ≡ 21 → ⊥)
    → (k ≡ 22 → ⊥) → (k ≡ 24 → ⊥) → (k ≡ 25 → ⊥) → roles_of k ≡ no_roles
unfolding roles_of roles
roles-none k low a b c d e f g h =
    or_else k 13 refl (λ i. or_else k 14 refl (λ j. or_else k 15 refl (λ l.
    or_else k 16 refl (λ m. or_else k 23 refl (λ n. or_else k 26 refl (λ o.
    roles_unknown k (omega (arith, a, b, c, d, e, f, g, h, i, j, l, m, n, o))))))))

-- a field that is named passes question 8
pub zero-named : (role : Role) (value : ℕ) → (role ≡ Unnamed → ⊥) → field_zero role value ≡ true
unfolding field_zero
zero-named Unnamed value named = absurd (named refl)
zero-named Variable value named = refl
zero-named Expression value named = refl
zero-named Statement value named = refl
zero-named Procedure value named = refl
zero-named Half value named = refl
zero-named Area value named = refl

-- question 8
abbrev ZeroAt : ℕ → Type 0
ZeroAt k =
    (a b c : ℕ)
    → unnamed_zero (node k a b c) ≡ (field_zero (roles_of k).a a && (field_zero (roles_of k).b b && field_zero (roles_of k).c c))

zero-known : Each ZeroAt listed
unfolding unnamed_zero named_fields expression_of statement_of roles_of roles field_zero
zero-known =
    none also (λ a b c. simp and-true) also (λ a b c. refl) also (λ a b c. simp and_assoc)
    also (λ a b c. simp and_assoc) also (λ a b c. refl) also (λ a b c. refl) also (λ a b c. refl)
    also (λ a b c. refl) also (λ a b c. refl) also (λ a b c. refl) also (λ a b c. refl) also (λ a b c. refl)
    also (λ a b c. refl) also (λ a b c. simp and_assoc) also (λ a b c. simp and_assoc)
    also (λ a b c. simp and_assoc) also (λ a b c. simp and_assoc) also (λ a b c. refl)
    also (λ a b c. refl) also (λ a b c. refl) also (λ a b c. refl) also (λ a b c. refl) also (λ a b c. refl)
    also (λ a b c. simp and_assoc) also (λ a b c. refl) also (λ a b c. refl) also (λ a b c. simp and_assoc)

zero_unknown : (k : ℕ) → listed ≤ k → ZeroAt k
unfolding unnamed_zero named_fields field_zero
zero_unknown k h a b c =
    let other : eqb k 0 ≡ false = ne_eqb k 0 (λ e. omega arith) in
    simp (
      other,
      expression_unknown k a b c h,
      statement_unknown k a b c h,
      roles_unknown k h,
      and_assoc,
    )

pub zero_law : (m : Node) → unnamed_zero m
    ≡ (field_zero (roles_of m.kind).a m.a
    && (field_zero (roles_of m.kind).b m.b && field_zero (roles_of m.kind).c m.c))
zero_law m = each-kind ZeroAt zero-known zero_unknown m.kind m.a m.b m.c

-- question 9
module _ (program : Program) (n : ℕ) where
  abbrev FitsAt : ℕ → Type 0
  FitsAt k =
      (a b c : ℕ)
      → (expression_fits program n (expression_of (node k a b c)) && statement_fits program n (statement_of (node k a b c)))
      ≡ (field_fits program n (roles_of k).a a && (field_fits program n (roles_of k).b b && field_fits program n (roles_of k).c c))

  fits-known : Each FitsAt listed
  unfolding expression_of statement_of expression_fits statement_fits roles_of roles field_fits
  fits-known =
      none also (λ a b c. refl) also (λ a b c. simp and-true) also (λ a b c. refl) also (λ a b c. refl)
      also (λ a b c. simp and-true) also (λ a b c. simp and-true)
      also (λ a b c. simp and-true) also (λ a b c. simp and-true)
      also (λ a b c. simp and-true) also (λ a b c. simp and-true)
      also (λ a b c. simp and-true) also (λ a b c. simp and-true)
      also (λ a b c. simp and-true) also (λ a b c. refl) also (λ a b c. refl) also (λ a b c. refl)
      also (λ a b c. refl) also (λ a b c. simp and-true) also (λ a b c. simp and-true)
      also (λ a b c. simp and_assoc) also (λ a b c. simp and-true)
      also (λ a b c. simp and-true) also (λ a b c. simp and-true) also (λ a b c. refl)
      also (λ a b c. simp and_assoc) also (λ a b c. simp and-true) also (λ a b c. refl)

  fits_unknown : (k : ℕ) → listed ≤ k → FitsAt k
  unfolding expression_fits statement_fits field_fits
  fits_unknown k h a b c =
      simp
      (expression_unknown k a b c h, statement_unknown k a b c h, roles_unknown k h)

  pub fits_law : node_fits program n
      ≡ (field_fits program n (roles_of (node_at program n).kind).a (node_at program n).a
      && (field_fits program n (roles_of (node_at program n).kind).b (node_at program n).b
      && field_fits program n (roles_of (node_at program n).kind).c (node_at program n).c))
  unfolding node_fits expression_at statement_at
  fits_law =
      let m = node_at program n in
      each-kind FitsAt fits-known fits_unknown m.kind m.a m.b m.c

-- question 11: the parts that a node names
abbrev PartsAt : ℕ → Type 0
PartsAt k =
    (a b c : ℕ)
    → (expression_parts (expression_of (node k a b c)) ++ statement_parts (statement_of (node k a b c)))
    ≡ field_parts (roles_of k).a a ++ (field_parts (roles_of k).b b ++ field_parts (roles_of k).c c)

parts-known : Each PartsAt listed
unfolding expression_of statement_of expression_parts statement_parts roles_of roles field_parts
parts-known =
    none also (λ a b c. refl) also (λ a b c. refl) also (λ a b c. refl) also (λ a b c. refl) also (λ a b c. refl)
    also (λ a b c. refl) also (λ a b c. refl) also (λ a b c. refl) also (λ a b c. refl) also (λ a b c. refl)
    also (λ a b c. refl) also (λ a b c. refl) also (λ a b c. refl) also (λ a b c. refl) also (λ a b c. refl)
    also (λ a b c. refl) also (λ a b c. refl) also (λ a b c. refl) also (λ a b c. refl) also (λ a b c. refl)
    also (λ a b c. refl) also (λ a b c. refl) also (λ a b c. refl) also (λ a b c. refl) also (λ a b c. refl)
    also (λ a b c. refl) also (λ a b c. refl)

parts_unknown : (k : ℕ) → listed ≤ k → PartsAt k
unfolding expression_parts statement_parts field_parts
parts_unknown k h a b c =
    simp
    (expression_unknown k a b c h, statement_unknown k a b c h, roles_unknown k h)

pub parts_law : (program : Program) (n : ℕ) → parts_at program n
    ≡ field_parts (roles_of (node_at program n).kind).a (node_at program n).a
    ++ (field_parts (roles_of (node_at program n).kind).b (node_at program n).b
    ++ field_parts (roles_of (node_at program n).kind).c (node_at program n).c)
unfolding parts_at expression_at statement_at
parts_law program n =
    let m = node_at program n in
    each-kind PartsAt parts-known parts_unknown m.kind m.a m.b m.c
