-- A node with other numbers for its parts: as expression, as statement, by its operands and by its fields.
use mathlib.Core.Bool.{Bool, true, false, cond}
use mathlib.Core.List.{List, [], ◌∷◌, ◌++◌, map}
use mathlib.Core.Logic.{inl, inr}
use mathlib.Core.Path.{◌≡◌, refl, sym, ◌∙◌, ap}
use Prim.Native.Nat.{ℕ, ◌≤◌}
use native.Mathlib.Omega.{arith}
use Rattle.linker.specs.Linking.{part_at, renamed}
use Rattle.rules.specs.declared.Node.{Node}
use Rattle.rules.specs.Table.{expression_of, statement_of, expression_operands, statement_operands}
use Rattle.rules.specs.Table.{Expression, constant, variable, own_number, process_count, door, slot, operation}
use Rattle.rules.specs.Table.{Statement, nothing, assign, sequence, branch, loop, call, latch, collective, leave}
use Rattle.rules.specs.Table.{Collective, barrier, broadcast, exchange, is_leave}
use Rattle.rules.specs.Table.{Operand, variable_operand, procedure_operand, area_operand, expression_operand, statement_operand}
use Rattle.rules.specs.WellFormed.{named_fields, unnamed_zero, operand_parts, expression_parts, statement_parts, open_parts}
use Rattle.rules.proofs.AnywhereLaws.{In}
use Rattle.table.proofs.RoleLaws.{listed, Each, none, ◌also◌, each-kind, node, expression_unknown, statement_unknown}

abbrev pub node_parts : Node → List ℕ
node_parts m = expression_parts (expression_of m) ++ statement_parts (statement_of m)

abbrev pub Fields : (ℕ → Type 0) → Node → Type 0
Fields P m = P m.a × P m.b × P m.c

-- an unknown kind has no parts
pub unknown_part : (k a b c : ℕ) → listed ≤ k → (i : ℕ) → part_at (node k a b c) i ≡ false
unfolding part_at
unknown_part k a b c h i = rw (expression_unknown k a b c h, statement_unknown k a b c h)

-- a field that names a node is among the parts
abbrev Names : Node → Type 0
Names m =
    (part_at m 0 ≡ true → In m.a (node_parts m))
    × (part_at m 1 ≡ true → In m.b (node_parts m))
    × (part_at m 2 ≡ true → In m.c (node_parts m))

abbrev NamesAt : ℕ → Type 0
NamesAt k = (a b c : ℕ) → Names (node k a b c)

no : {A : Type 0} → false ≡ true → A
no e = let z : ◌≡◌ {A = ℕ} 0 1 = cc in absurd (omega arith)

abbrev Named : Bool → ℕ → List ℕ → Type 0
Named part x parts = part ≡ true → In x parts

kept : (a b c : ℕ) → Named false a [] × Named false b [] × Named false c []
kept a b c = (no, no, no)

first : (a b c : ℕ) → Named true a (a ∷ []) × Named false b (a ∷ []) × Named false c (a ∷ [])
first a b c = (λ e. inl refl, no, no)

second : (a b c : ℕ) → Named false a (b ∷ []) × Named true b (b ∷ []) × Named false c (b ∷ [])
second a b c = (no, λ e. inl refl, no)

two : (a b c : ℕ) → Named true a (a ∷ b ∷ []) × Named true b (a ∷ b ∷ []) × Named false c (a ∷ b ∷ [])
two a b c = (λ e. inl refl, λ e. inr (inl refl), no)

last : (a b c : ℕ) → Named false a (b ∷ c ∷ []) × Named true b (b ∷ c ∷ []) × Named true c (b ∷ c ∷ [])
last a b c = (no, λ e. inl refl, λ e. inr (inl refl))

three : (a b c : ℕ) → Named true a (a ∷ b ∷ c ∷ []) × Named true b (a ∷ b ∷ c ∷ []) × Named true c (a ∷ b ∷ c ∷ [])
three a b c = (λ e. inl refl, λ e. inr (inl refl), λ e. inr (inr (inl refl)))

names_known : Each NamesAt listed
unfolding part_at expression_of statement_of expression_parts statement_parts
names_known =
    none also kept also kept also kept also kept also first also first
    also two also two also two also two also two also two also two
    also kept also kept also kept
    also kept also second also two also three also two also kept also two also kept also last also first also kept

names_unknown : (k : ℕ) → listed ≤ k → NamesAt k
names_unknown k h a b c =
    rw (unknown_part k a b c h 0, unknown_part k a b c h 1, unknown_part k a b c h 2) (no, no, no)

pub named : (m : Node) → Names m
named m = each-kind NamesAt names_known names_unknown m.kind m.a m.b m.c

module _ (to : ℕ → ℕ) where
  unknown_renamed : (k a b c : ℕ) → listed ≤ k → renamed to (node k a b c) ≡ node k a b c
  unfolding renamed
  unknown_renamed k a b c h =
      rw (unknown_part k a b c h 0, unknown_part k a b c h 1, unknown_part k a b c h 2)

  unfoldable pub rename_expression : Expression → Expression
  rename_expression (constant v) = constant v
  rename_expression (variable a) = variable a
  rename_expression own_number = own_number
  rename_expression process_count = process_count
  rename_expression (door a) = door (to a)
  rename_expression (slot a r) = slot (to a) r
  rename_expression (operation o a b) = operation o (to a) (to b)

  unfoldable pub rename_collective : Collective → Collective
  rename_collective barrier = barrier
  rename_collective (broadcast a b c) = broadcast a (to b) (to c)
  rename_collective (exchange a r) = exchange (to a) r

  unfoldable pub rename_statement : Statement → Statement
  rename_statement nothing = nothing
  rename_statement (assign a b) = assign a (to b)
  rename_statement (sequence a b) = sequence (to a) (to b)
  rename_statement (branch a b c) = branch (to a) (to b) (to c)
  rename_statement (loop a b) = loop (to a) (to b)
  rename_statement (call p) = call p
  rename_statement (latch a b) = latch (to a) (to b)
  rename_statement (collective k) = collective (rename_collective k)
  rename_statement leave = leave

  abbrev pub rename_operand : Operand → Operand
  rename_operand (variable_operand a) = variable_operand a
  rename_operand (procedure_operand p) = procedure_operand p
  rename_operand (area_operand r) = area_operand r
  rename_operand (expression_operand a) = expression_operand (to a)
  rename_operand (statement_operand a) = statement_operand (to a)

  -- by kind: the node as either sort, and that fields that are not named stay 0
  abbrev pub Renames : Node → Type 0
  Renames m =
      (expression_of (renamed to m) ≡ rename_expression (expression_of m))
      × (statement_of (renamed to m) ≡ rename_statement (statement_of m))
      × (unnamed_zero m ≡ true → unnamed_zero (renamed to m) ≡ true)

  abbrev RenamesAt : ℕ → Type 0
  RenamesAt k = (a b c : ℕ) → Renames (node k a b c)

  renames-known : Each RenamesAt listed
  unfolding renamed part_at expression_of statement_of rename_expression rename_statement rename_collective unnamed_zero named_fields
  renames-known =
      none also (λ a b c. (refl, refl, λ u. u)) also (λ a b c. (refl, refl, λ u. u)) also (λ a b c. (refl, refl, λ u. u))
      also (λ a b c. (refl, refl, λ u. u)) also (λ a b c. (refl, refl, λ u. u)) also (λ a b c. (refl, refl, λ u. u))
      also (λ a b c. (refl, refl, λ u. u)) also (λ a b c. (refl, refl, λ u. u)) also (λ a b c. (refl, refl, λ u. u))
      also (λ a b c. (refl, refl, λ u. u)) also (λ a b c. (refl, refl, λ u. u)) also (λ a b c. (refl, refl, λ u. u))
      also (λ a b c. (refl, refl, λ u. u)) also (λ a b c. (refl, refl, λ u. u)) also (λ a b c. (refl, refl, λ u. u))
      also (λ a b c. (refl, refl, λ u. u)) also (λ a b c. (refl, refl, λ u. u)) also (λ a b c. (refl, refl, λ u. u))
      also (λ a b c. (refl, refl, λ u. u)) also (λ a b c. (refl, refl, λ u. u)) also (λ a b c. (refl, refl, λ u. u))
      also (λ a b c. (refl, refl, λ u. u)) also (λ a b c. (refl, refl, λ u. u)) also (λ a b c. (refl, refl, λ u. u))
      also (λ a b c. (refl, refl, λ u. u)) also (λ a b c. (refl, refl, λ u. u)) also (λ a b c. (refl, refl, λ u. u))

  renames_unknown : (k : ℕ) → listed ≤ k → RenamesAt k
  unfolding rename_expression rename_statement
  renames_unknown k h a b c =
      let x = expression_unknown k a b c h in
      let s = statement_unknown k a b c h in
      rw (unknown_renamed k a b c h) (x ∙ sym (ap rename_expression x), s ∙ sym (ap rename_statement s), λ u. u)

  pub renames : (m : Node) → Renames m
  renames m = each-kind RenamesAt renames-known renames_unknown m.kind m.a m.b m.c

  -- what holds of a node's fields, and of the new number of each part, holds of the fields of the node renamed
  field-renamed : (P : ℕ → Type 0) (part : Bool) (x : ℕ) → P x → (part ≡ true → P (to x)) → P (cond part (to x) x)
  field-renamed P true x own new = new refl
  field-renamed P false x own new = own

  pub fields_renamed : (P : ℕ → Type 0) (m : Node) → Fields P m → ((x : ℕ) → In x (node_parts m) → P (to x))
      → Fields P (renamed to m)
  unfolding renamed
  fields_renamed P m own new = (
    field-renamed P (part_at m 0) m.a own.0 (λ e. new m.a ((named m).0 e)),
    field-renamed P (part_at m 1) m.b own.1 (λ e. new m.b ((named m).1 e)),
    field-renamed P (part_at m 2) m.c own.2 (λ e. new m.c ((named m).2 e)),
  )

  -- operands and parts

  pub expression_operands_lem : (x : Expression) → expression_operands (rename_expression x) ≡ map rename_operand (expression_operands x)
  unfolding rename_expression
  expression_operands_lem (constant v) = refl
  expression_operands_lem (variable a) = refl
  expression_operands_lem own_number = refl
  expression_operands_lem process_count = refl
  expression_operands_lem (door a) = refl
  expression_operands_lem (slot a r) = refl
  expression_operands_lem (operation o a b) = refl

  pub statement_operands_lem : (s : Statement) → statement_operands (rename_statement s) ≡ map rename_operand (statement_operands s)
  unfolding rename_statement rename_collective
  statement_operands_lem nothing = refl
  statement_operands_lem (assign a b) = refl
  statement_operands_lem (sequence a b) = refl
  statement_operands_lem (branch a b c) = refl
  statement_operands_lem (loop a b) = refl
  statement_operands_lem (call p) = refl
  statement_operands_lem (latch a b) = refl
  statement_operands_lem (collective barrier) = refl
  statement_operands_lem (collective (broadcast a b c)) = refl
  statement_operands_lem (collective (exchange a r)) = refl
  statement_operands_lem leave = refl

  operand_parts_lem : (operands : List Operand) → operand_parts (map rename_operand operands) ≡ map to (operand_parts operands)
  operand_parts_lem [] = refl
  operand_parts_lem (variable_operand a ∷ rest) = operand_parts_lem rest
  operand_parts_lem (procedure_operand p ∷ rest) = operand_parts_lem rest
  operand_parts_lem (area_operand r ∷ rest) = operand_parts_lem rest
  operand_parts_lem (expression_operand a ∷ rest) = ap (λ xs. to a ∷ xs) (operand_parts_lem rest)
  operand_parts_lem (statement_operand a ∷ rest) = ap (λ xs. to a ∷ xs) (operand_parts_lem rest)

  pub expression-parts : (x : Expression) → expression_parts (rename_expression x) ≡ map to (expression_parts x)
  unfolding expression_parts
  expression-parts x = ap operand_parts (expression_operands_lem x) ∙ operand_parts_lem (expression_operands x)

  pub statement-parts : (s : Statement) → statement_parts (rename_statement s) ≡ map to (statement_parts s)
  unfolding statement_parts
  statement-parts s = ap operand_parts (statement_operands_lem s) ∙ operand_parts_lem (statement_operands s)

  pub open_renamed : (s : Statement) → open_parts (rename_statement s) ≡ map to (open_parts s)
  unfolding open_parts rename_statement
  open_renamed nothing = refl
  open_renamed (assign a b) = refl
  open_renamed (sequence a b) = refl
  open_renamed (branch a b c) = refl
  open_renamed (loop a b) = refl
  open_renamed (call p) = refl
  open_renamed (latch a b) = refl
  open_renamed (collective k) = refl
  open_renamed leave = refl

  pub leave-renamed : (s : Statement) → is_leave (rename_statement s) ≡ is_leave s
  unfolding rename_statement
  leave-renamed nothing = refl
  leave-renamed (assign a b) = refl
  leave-renamed (sequence a b) = refl
  leave-renamed (branch a b c) = refl
  leave-renamed (loop a b) = refl
  leave-renamed (call p) = refl
  leave-renamed (latch a b) = refl
  leave-renamed (collective k) = refl
  leave-renamed leave = refl
