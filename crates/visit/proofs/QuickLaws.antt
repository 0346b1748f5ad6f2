-- The quick case: fields that are free by their roles pass questions 8 and 9, name nodes that were not used, and call below the limit.
use mathlib.Core.Bool.{Bool, true, false, not, ◌&&◌, ◌||◌}
use mathlib.Core.List.{List, [], ◌∷◌, ◌++◌}
use mathlib.Core.Logic.{◌⊎◌, ⊎_elim}
use mathlib.Core.Path.{◌≡◌, refl, sym, ◌∙◌, ap}
use Prim.Native.Nat.{ℕ, ◌<◌}
use native.Mathlib.Decide.{ℕ_discrete}
use native.Mathlib.Omega.{arith}
use lib.Dec.{leb, eqb}
use borrow.Author.Tests.{ltb-true, not-true, eqb-false}
use Rattle.rules.specs.declared.Node.{Node}
use Rattle.rules.specs.Table.{Program, Statement, nothing, assign, sequence, branch, loop, call, latch, collective, leave}
use Rattle.rules.specs.Table.{node_at, statement_of, statement_at, first_statement, last_expression, last_statement}
use Rattle.rules.specs.WellFormed.{is_expression, is_statement, kind_known, unnamed_zero, node_fits, parts_at}
use Rattle.rules.proofs.AnswerLaws.{both_left, both_right}
use Rattle.rules.proofs.ChoiceLaws.{bool_cases}
use Rattle.rules.proofs.KindLaws.{call_of, by_kind}
use Rattle.table.specs.declared.Header.{Header}
use Rattle.table.specs.declared.fields.Role.{Role}
use Rattle.table.specs.declared.fields.Role.TheVariants.{Unnamed, Variable, Expression, Statement as StatementRole, Procedure, Half, Area}
use Rattle.table.specs.declared.fields.Roles.{Roles}
use Rattle.table.specs.Marks.{bit_at, with_bit, with_bits}
use Rattle.table.specs.Roles.{three, no_roles, roles, roles_of, is_part, field_zero, field_fits, field_parts}
use Rattle.table.specs.Sized.{Sized}
use Rattle.table.specs.Uses.{CallsBelow}
use Rattle.table.proofs.BitLaws.{bit-other}
use Rattle.table.proofs.FittingLaws.{part-below, fields_fit}
use Rattle.table.proofs.RoleLaws.{zero_law, fits_law, parts_law}
use Rattle.table.proofs.TestLaws.{never}
use Rattle.table.proofs.UseLaws.{bits_append}
use Rattle.visit.specs.declared.Visit.{Visit}
use Rattle.visit.specs.Exact.{noted_code, repeated_code}
use Rattle.visit.specs.Fields.{within, field_free, distinct, fields_free, three_parts, Used}
use Rattle.visit.specs.Quick.{Quick}

pub codes_append : (m : List ℕ) (best : ℕ) (a b : List ℕ)
    → repeated_code m best (a ++ b) ≡ repeated_code (with_bits m a) (repeated_code m best a) b
unfolding with_bits repeated_code
codes_append m best [] b = refl
codes_append m best (n ∷ a) b = codes_append (with_bit m n) (noted_code m best n) a b

-- marks hold what lies below a node of the table
pub markable : {table : List ℕ} {header : Header} {n a : ℕ} → Sized table header → n < header.nodes → a < n → a < 256
markable sized inside below = omega (arith, sized.nodes-high, sized.nodes-read)

-- a field names no node, or one that is not marked
abbrev pub Free : List ℕ → Role → ℕ → Type 0
Free m role value = is_part role ≡ true → bit_at m value ≡ false

field-fresh : (m : List ℕ) (best : ℕ) (role : Role) (value : ℕ) → Free m role value → repeated_code m best (field_parts role value) ≡ best
unfolding repeated_code noted_code field_parts
field-fresh m best role value free =
    ⊎_elim (λ (e : is_part role ≡ true). simp (e, free e)) (λ (e : is_part role ≡ false). simp e) (bool_cases (is_part role))

free-kept : (m : List ℕ) (r : Role) (x : ℕ) (s : Role) (y : ℕ) → Free m s y → distinct r x s y ≡ true → Free (with_bits m (field_parts r x)) s y
unfolding with_bits field_parts distinct
free-kept m r x s y free apart part =
    ⊎_elim
    (λ (e : is_part r ≡ true).
    let differ : (y ≡ x → ⊥) =
    λ same. eqb-false x y (not-true (eqb x y) (simp (e, part) at apart)) (sym same) in
    simp e (bit-other m x y differ ∙ free part))
    (λ (e : is_part r ≡ false). simp e (free part))
    (bool_cases (is_part r))

-- what the test of a field says
module _ (program : Program) (m : List ℕ) (v : Visit) (role : Role) (value : ℕ) (h : field_free program m v role value ≡ true) where
  abbrev fits : Bool
  fits = field_fits program v.node role value

  abbrev inside : Bool
  inside = within v.limit role value

  abbrev unmarked : Bool
  unmarked = not (is_part role) || not (bit_at m value)

  free-zero : field_zero role value ≡ true
  unfolding field_free
  free-zero = both_left (field_zero role value) _ h

  from-fits : (fits && (inside && unmarked)) ≡ true
  unfolding field_free
  from-fits = both_right (field_zero role value) _ h

  pub free-fits : fits ≡ true
  free-fits = both_left fits _ from-fits

  from-inside : (inside && unmarked) ≡ true
  from-inside = both_right fits _ from-fits

  free-inside : inside ≡ true
  free-inside = both_left inside _ from-inside

  pub part_low : is_part role ≡ true → value < v.node
  part_low part = part-below program v.node role value free-fits part

  pub free-bit : Free m role value
  free-bit part = not-true (bit_at m value) (simp part at (both_right inside _ from-inside))

-- a field that names no procedure is below any limit
pub within-other : (limit : ℕ) (role : Role) (value : ℕ) → (role ≡ Procedure → ⊥) → within limit role value ≡ true
unfolding within
within-other limit Unnamed value other = refl
within-other limit Variable value other = refl
within-other limit Expression value other = refl
within-other limit StatementRole value other = refl
within-other limit Procedure value other = absurd (other refl)
within-other limit Half value other = refl
within-other limit Area value other = refl

-- the three fields

pub record Three (program : Program) (m : List ℕ) (v : Visit) (node : Node) (roles : Roles) : Type 0 where
  pub a : field_free program m v roles.a node.a ≡ true
  pub b : field_free program m v roles.b node.b ≡ true
  pub c : field_free program m v roles.c node.c ≡ true
  pub a-b : distinct roles.a node.a roles.b node.b ≡ true
  pub a_c : distinct roles.a node.a roles.c node.c ≡ true
  pub b-c : distinct roles.b node.b roles.c node.c ≡ true

module _ (program : Program) (m : List ℕ) (v : Visit) (node : Node) (roles : Roles) where
  abbrev ra : Role
  ra = roles.a

  abbrev rb : Role
  rb = roles.b

  abbrev rc : Role
  rc = roles.c

  pub three-tests : fields_free program m v node roles ≡ true → Three program m v node roles
  unfolding fields_free
  three-tests h =
      let from-b = both_right (field_free program m v ra node.a) _ h in
      let from-c = both_right (field_free program m v rb node.b) _ from-b in
      let pairs = both_right (field_free program m v rc node.c) _ from-c in
      let last = both_right (distinct ra node.a rb node.b) _ pairs in
      record {
        a = both_left (field_free program m v ra node.a) _ h;
        b = both_left (field_free program m v rb node.b) _ from-b;
        c = both_left (field_free program m v rc node.c) _ from-c;
        a-b = both_left (distinct ra node.a rb node.b) _ pairs;
        a_c = both_left (distinct ra node.a rc node.c) _ last;
        b-c = both_right (distinct ra node.a rc node.c) _ last;
      }

  pub three-free : Three program m v node roles → fields_free program m v node roles ≡ true
  unfolding fields_free
  three-free t = simp (t.a, t.b, t.c, t.a-b, t.a_c, t.b-c)

  module _ (t : Three program m v node roles) where
    abbrev pub after-a : List ℕ
    after-a = with_bits m (field_parts ra node.a)

    abbrev pub after-b : List ℕ
    after-b = with_bits after-a (field_parts rb node.b)

    pub b_still : Free after-a rb node.b
    b_still = free-kept m ra node.a rb node.b (free-bit program m v rb node.b t.b) t.a-b

    pub c_still : Free after-b rc node.c
    c_still =
        free-kept after-a rb node.b rc node.c
        (free-kept m ra node.a rc node.c (free-bit program m v rc node.c t.c) t.a_c) t.b-c

    pub fresh : (best : ℕ) → repeated_code m best (three_parts node roles) ≡ best
    fresh best =
        codes_append m best (field_parts ra node.a) _
        ∙ rw (field-fresh m best ra node.a (free-bit program m v ra node.a t.a))
        (codes_append after-a best (field_parts rb node.b) _
        ∙ rw (field-fresh after-a best rb node.b b_still) (field-fresh after-b best rc node.c c_still))

pub used-three : {m1 m2 m3 : List ℕ} (m a b c : List ℕ) → m1 ≡ with_bits m a → m2 ≡ with_bits m1 b → m3 ≡ with_bits m2 c
    → m3 ≡ with_bits m (a ++ (b ++ c))
used-three m a b c first second third = third ∙ simp (second, first, bits_append)

-- the fields of a node that fits: each part lies below the node, and the three fields are its parts

module _ (program : Program) (n : ℕ) (node : Node) (here : node ≡ node_at program n) (fits : node_fits program n ≡ true) where
  pub a-below : {roles : Roles} → roles ≡ roles_of node.kind → is_part roles.a ≡ true → node.a < n
  a-below e part =
      part-below program n (roles_of node.kind).a node.a (rw here (fields_fit program n fits).0) (rw e at part)

  pub b-below : {roles : Roles} → roles ≡ roles_of node.kind → is_part roles.b ≡ true → node.b < n
  b-below e part =
      part-below program n (roles_of node.kind).b node.b (rw here (fields_fit program n fits).1) (rw e at part)

  pub c-below : {roles : Roles} → roles ≡ roles_of node.kind → is_part roles.c ≡ true → node.c < n
  c-below e part =
      part-below program n (roles_of node.kind).c node.c (rw here (fields_fit program n fits).2) (rw e at part)

-- what noting the nodes of a list answers and leaves
abbrev Coded : List ℕ → ℕ → List ℕ → ℕ → List ℕ → Type 0
Coded marks best list r after = (r ≡ repeated_code marks best list) × (after ≡ with_bits marks list)

pub three-codes : (program : Program) (n : ℕ) (m : Node) (marks m1 m2 m3 : List ℕ) (best r1 r2 r3 : ℕ) (roles : Roles)
    → m ≡ node_at program n → roles ≡ roles_of m.kind
    → Coded marks best (field_parts roles.a m.a) r1 m1
    → Coded m1 r1 (field_parts roles.b m.b) r2 m2
    → Coded m2 r2 (field_parts roles.c m.c) r3 m3
    → Coded marks best (parts_at program n) r3 m3
three-codes program n m marks m1 m2 m3 best r1 r2 r3 roles node named first second third =
    let parts : parts_at program n ≡ field_parts roles.a m.a ++ (field_parts roles.b m.b ++ field_parts roles.c m.c) =
    simp (named, node) (parts_law program n) in (
      third.0 ∙ simp (parts, codes_append, second.1, second.0, first.1, first.0),
      third.1 ∙ simp (parts, bits_append, second.1, first.1),
    )

-- a known kind, and the roles of its fields
abbrev pub known_kind : ℕ → Bool
known_kind kind = leb kind last_expression || (leb first_statement kind && leb kind last_statement)

pub record Named (kind : ℕ) (roles : Roles) : Type 0 where
  pub known : known_kind kind ≡ true
  pub named : roles_of kind ≡ roles

-- no other kind is a call
abbrev is_call : Statement → Bool
is_call nothing = false
is_call (assign a b) = false
is_call (sequence a b) = false
is_call (branch a b c) = false
is_call (loop a b) = false
is_call (call q) = true
is_call (latch a b) = false
is_call (collective k) = false
is_call leave = false

no_call : (m : Node) → (m.kind ≡ 21 → ⊥) → (q : ℕ) → statement_of m ≡ call q → ⊥
no_call m other q e =
    let none : is_call (statement_of m) ≡ false =
    by_kind (λ s. is_call s ≡ false) m (λ h. refl) (λ h. refl) (λ h. refl) (λ h. refl) (λ h. absurd (other h)) (λ h. refl)
    (λ h. refl) (λ h. refl) (λ h. refl) (λ h. refl) refl in
    never (sym (ap is_call e) ∙ none)

call_role : {kind : ℕ} → kind ≡ 21 → (roles_of kind).a ≡ Procedure
unfolding roles_of roles
call_role e = rw e

procedure-below : (limit : ℕ) (role : Role) (value : ℕ) → within limit role value ≡ true → role ≡ Procedure → value < limit
unfolding within
procedure-below limit role value inside procedure = ltb-true value limit (rw procedure at inside)

-- what `quick` promises of a node whose fields are free

module _ (program : Program) (v : Visit) (m : Node) (here : m ≡ node_at program v.node) (roles : Roles)
    (named : Named m.kind roles) where
  pub known_is : kind_known program v.node ≡ true
  unfolding kind_known is_expression is_statement
  known_is = simp (← here) named.known

  pub zero_is : unnamed_zero (node_at program v.node)
      ≡ (field_zero roles.a m.a && (field_zero roles.b m.b && field_zero roles.c m.c))
  zero_is = simp (← here) (zero_law m ∙ simp named.named)

  pub fits-is : node_fits program v.node
      ≡ (field_fits program v.node roles.a m.a
      && (field_fits program v.node roles.b m.b && field_fits program v.node roles.c m.c))
  fits-is = fits_law program v.node ∙ simp (← here, named.named)

  pub parts_are : parts_at program v.node ≡ three_parts m roles
  parts_are = parts_law program v.node ∙ simp (← here, named.named)

  module _ (before : List ℕ) where
    pub quickly : {after : List ℕ} → Used program v m roles before after → Quick program v.node before after
    quickly u =
        let t = three-tests program before v m roles u.free in
        record {
          known = known_is;
          zero = zero_is ∙ simp (free-zero _ _ _ _ _ t.a, free-zero _ _ _ _ _ t.b, free-zero _ _ _ _ _ t.c);
          fits = fits-is ∙ simp (free-fits _ _ _ _ _ t.a, free-fits _ _ _ _ _ t.b, free-fits _ _ _ _ _ t.c);
          fresh = λ best. rw parts_are (fresh program before v m roles t best);
          used = u.used ∙ ap (with_bits before) (sym parts_are);
        }

    pub calls-below : fields_free program before v m roles ≡ true → CallsBelow program v.node v.limit
    unfolding statement_at
    calls-below free q s =
        let is : statement_of m ≡ call q = ap statement_of here ∙ s in
        elim (ℕ_discrete m.kind 21) [
          | yes e ↦
              let t = three-tests program before v m roles free in
              let same : m.a ≡ q = cc (call_of m e) in
              let procedure : roles.a ≡ Procedure = ap (λ (r : Roles). r.a) (sym named.named) ∙ call_role e in
              rw same at (procedure-below _ _ _ (free-inside _ _ _ _ _ t.a) procedure)
          | no other ↦ absurd (no_call m other q is)
        ]

-- the kinds, as the match has them

named_as : {kind : ℕ} (k : ℕ) → known_kind k ≡ true → kind ≡ k → Named kind (roles_of k)
named_as k known e = rw e (record { known = known; named = refl })

module _ (kind : ℕ) where
  pub named_0 : kind ≡ 0 → Named kind (three Unnamed Half Half)
  unfolding roles_of roles
  named_0 = named_as 0 refl

  pub named_1 : kind ≡ 1 → Named kind (three Variable Unnamed Unnamed)
  unfolding roles_of roles
  named_1 = named_as 1 refl

  pub named_2 : (kind ≡ 2) ⊎ (kind ≡ 23) → Named kind no_roles
  unfolding roles_of roles
  named_2 = ⊎_elim (named_as 2 refl) (named_as 23 refl)

  pub named_3 : (kind ≡ 3) ⊎ (kind ≡ 16) → Named kind no_roles
  unfolding roles_of roles
  named_3 = ⊎_elim (named_as 3 refl) (named_as 16 refl)

  pub named_4 : kind ≡ 4 → Named kind (three Expression Unnamed Unnamed)
  unfolding roles_of roles
  named_4 = named_as 4 refl

  pub named_5 : kind ≡ 5 → Named kind (three Expression Area Unnamed)
  unfolding roles_of roles
  named_5 = named_as 5 refl

  pub named_6 : (kind ≡ 6) ⊎ ((kind ≡ 7) ⊎ ((kind ≡ 8) ⊎ ((kind ≡ 9) ⊎ ((kind ≡ 10) ⊎ ((kind ≡ 11) ⊎ (kind ≡ 12))))))
      → Named kind (three Expression Expression Unnamed)
  unfolding roles_of roles
  named_6 =
      ⊎_elim (named_as 6 refl)
      (⊎_elim (named_as 7 refl)
      (⊎_elim (named_as 8 refl)
      (⊎_elim (named_as 9 refl) (⊎_elim (named_as 10 refl) (⊎_elim (named_as 11 refl) (named_as 12 refl))))))

  pub named_17 : kind ≡ 17 → Named kind (three Variable Expression Unnamed)
  unfolding roles_of roles
  named_17 = named_as 17 refl

  pub named_18 : kind ≡ 18 → Named kind (three StatementRole StatementRole Unnamed)
  unfolding roles_of roles
  named_18 = named_as 18 refl

  pub named_19 : kind ≡ 19 → Named kind (three Expression StatementRole StatementRole)
  unfolding roles_of roles
  named_19 = named_as 19 refl

  pub named_20 : kind ≡ 20 → Named kind (three Expression StatementRole Unnamed)
  unfolding roles_of roles
  named_20 = named_as 20 refl

  pub named_21 : kind ≡ 21 → Named kind (three Procedure Unnamed Unnamed)
  unfolding roles_of roles
  named_21 = named_as 21 refl

  pub named_22 : kind ≡ 22 → Named kind (three Expression Expression Unnamed)
  unfolding roles_of roles
  named_22 = named_as 22 refl

  pub named_24 : kind ≡ 24 → Named kind (three Variable Expression Expression)
  unfolding roles_of roles
  named_24 = named_as 24 refl

  pub named_25 : kind ≡ 25 → Named kind (three Expression Area Unnamed)
  unfolding roles_of roles
  named_25 = named_as 25 refl

  pub named_26 : kind ≡ 26 → Named kind no_roles
  unfolding roles_of roles
  named_26 = named_as 26 refl
