-- The stuck case: where a field is not free and a call may name any procedure, one of questions 7, 8, 9 and 11 fails at it.
use mathlib.Core.Bool.{true, false}
use mathlib.Core.List.{List, [], ◌∷◌}
use mathlib.Core.Logic.{⊎_elim}
use mathlib.Core.Path.{◌≡◌, refl, sym, ◌∙◌, ap}
use Prim.Native.Nat.{ℕ, ◌≤◌, ◌<◌}
use native.Mathlib.Decide.{dec_lt}
use native.Mathlib.Omega.{arith}
use lib.ListN.{length}
use borrow.Author.Tests.{ne_eqb}
use Rattle.rules.specs.declared.Node.{Node}
use Rattle.rules.specs.Table.{Program, procedures, node_at}
use Rattle.rules.specs.WellFormed.{kind_known, unnamed_zero, node_fits, parts_at}
use Rattle.rules.proofs.ChoiceLaws.{bool_cases}
use Rattle.table.specs.declared.fields.Role.{Role}
use Rattle.table.specs.declared.fields.Role.TheVariants.{Unnamed, Variable, Expression, Statement, Procedure, Half, Area}
use Rattle.table.specs.declared.fields.Roles.{Roles}
use Rattle.table.specs.Marks.{bit_at, with_bit, with_bits}
use Rattle.table.specs.Roles.{is_part, field_zero, field_fits, field_parts}
use Rattle.table.proofs.BitLaws.{bit-same, bit-other}
use Rattle.table.proofs.FittingLaws.{part-below}
use Rattle.table.proofs.TestLaws.{never, all_three}
use Rattle.table.proofs.UseLaws.{length-with_bits}
use Rattle.visit.specs.declared.Visit.{Visit}
use Rattle.visit.specs.Exact.{noted_code, repeated_code, node_best}
use Rattle.visit.specs.Fields.{within, field_free, distinct, fields_free}
use Rattle.visit.specs.Least.{none}
use Rattle.visit.proofs.QuickLaws.{codes_append, Free, three-free, Named, known_is, zero_is, fits-is, parts_are}

-- noting nodes raises no refusal

pub noted-low : (m : List ℕ) (best n : ℕ) → noted_code m best n ≤ best
unfolding noted_code
noted-low m best n =
    ⊎_elim (λ (e : bit_at m n ≡ true). simp e (omega arith)) (λ (e : bit_at m n ≡ false). simp e (omega arith))
    (bool_cases (bit_at m n))

codes-low : (m : List ℕ) (best : ℕ) (list : List ℕ) → repeated_code m best list ≤ best
unfolding repeated_code
codes-low m best [] = omega arith
codes-low m best (n ∷ list) = omega (arith, codes-low (with_bit m n) (noted_code m best n) list, noted-low m best n)

-- where no refusal comes of a field, what it names was not marked
field-clear : (m : List ℕ) (best : ℕ) (role : Role) (value : ℕ) → (is_part role ≡ true → value < 256)
    → none ≤ repeated_code m best (field_parts role value)
    → Free m role value
unfolding repeated_code noted_code field_parts
field-clear m best role value few high part =
    ⊎_elim
    (λ (e : bit_at m value ≡ true). absurd (omega (arith, simp (part, e) at high, few part)))
    (λ (e : bit_at m value ≡ false). e)
    (bool_cases (bit_at m value))

-- what is not marked once a field is noted was not marked, and the field does not name it
module _ (m : List ℕ) (size : length m ≡ 8) (r : Role) (x : ℕ) (s : Role) (y : ℕ) (few : is_part r ≡ true → x < 256)
    (free : Free (with_bits m (field_parts r x)) s y) where
  apart : is_part r ≡ true → is_part s ≡ true → y ≡ x → ⊥
  unfolding with_bits field_parts
  apart first second same =
      let clear : bit_at (with_bit m x) y ≡ false = simp first at (free second) in
      never (sym (bit-same m x (omega (arith, few first))) ∙ (rw same at clear))

  free_back : Free m s y
  unfolding with_bits field_parts
  free_back part =
      ⊎_elim
      (λ (e : is_part r ≡ true). sym (bit-other m x y (apart e part)) ∙ (simp e at (free part)))
      (λ (e : is_part r ≡ false). simp e at (free part))
      (bool_cases (is_part r))

  distinct-back : distinct r x s y ≡ true
  unfolding distinct
  distinct-back =
      ⊎_elim
      (λ (e : is_part r ≡ true).
      ⊎_elim
      (λ (f : is_part s ≡ true). simp (e, f, ne_eqb x y (λ same. apart e f (sym same))))
      (λ (f : is_part s ≡ false). simp (e, f))
      (bool_cases (is_part s)))
      (λ (e : is_part r ≡ false). simp e)
      (bool_cases (is_part r))

-- a field that fits names a procedure below the limit, where a call may name any
within-fits : (program : Program) (v : Visit) → v.limit ≡ procedures program → (role : Role) (value : ℕ)
    → field_fits program v.node role value ≡ true → within v.limit role value ≡ true
unfolding within field_fits
within-fits program v all Unnamed value fits = refl
within-fits program v all Variable value fits = refl
within-fits program v all Expression value fits = refl
within-fits program v all Statement value fits = refl
within-fits program v all Procedure value fits = rw all fits
within-fits program v all Half value fits = refl
within-fits program v all Area value fits = refl

-- a field that fits is free if what it names was not marked, where a call may name any procedure
module _ (program : Program) (marks : List ℕ) (v : Visit) (all : v.limit ≡ procedures program) (role : Role) (value : ℕ)
    (zero : field_zero role value ≡ true) (fits : field_fits program v.node role value ≡ true) where
  unbound : within v.limit role value ≡ true
  unbound = within-fits program v all role value fits

  free-field : Free marks role value → field_free program marks v role value ≡ true
  unfolding field_free
  free-field free =
      ⊎_elim
      (λ (e : is_part role ≡ true). simp (zero, fits, unbound, e, free e))
      (λ (e : is_part role ≡ false). simp (zero, fits, unbound, e))
      (bool_cases (is_part role))

pub stuck-kind : (program : Program) (v : Visit) (before : List ℕ) → v.node < 256 → kind_known program v.node ≡ false
    → (best : ℕ) → best ≤ none → node_best program v.node before best < none
unfolding node_best
stuck-kind program v before few unknown best high = simp unknown (omega arith)

module _ (program : Program) (v : Visit) (m : Node) (here : m ≡ node_at program v.node) (roles : Roles) (named : Named m.kind roles)
    (before : List ℕ) (size : length before ≡ 8) (few : v.node < 256) (all : v.limit ≡ procedures program)
    (best : ℕ) (high : best ≤ none) where
  abbrev ra : Role
  ra = roles.a

  abbrev rb : Role
  rb = roles.b

  abbrev rc : Role
  rc = roles.c

  -- where nothing of 7 to 9 fails, and nothing of 11
  module _ (zero : unnamed_zero (node_at program v.node) ≡ true) (fits : node_fits program v.node ≡ true)
      (passes : none ≤ repeated_code before best (parts_at program v.node)) where
    abbrev after-a : List ℕ
    after-a = with_bits before (field_parts ra m.a)

    abbrev after-b : List ℕ
    after-b = with_bits after-a (field_parts rb m.b)

    -- the fields pass 8 and 9
    zeros : (field_zero ra m.a ≡ true) × (field_zero rb m.b ≡ true) × (field_zero rc m.c ≡ true)
    zeros = all_three _ _ _ (sym (zero_is program v m here roles named) ∙ zero)

    abbrev Fits : Role → ℕ → Type 0
    Fits role value = field_fits program v.node role value ≡ true

    fit : Fits ra m.a × Fits rb m.b × Fits rc m.c
    fit = all_three _ _ _ (sym (fits-is program v m here roles named) ∙ fits)

    part-few : (role : Role) (value : ℕ) → field_fits program v.node role value ≡ true → is_part role ≡ true → value < 256
    part-few role value fit part = omega (arith, part-below program v.node role value fit part)

    -- the codes after one, two and three fields
    abbrev code-a : ℕ
    code-a = repeated_code before best (field_parts ra m.a)

    abbrev code-b : ℕ
    code-b = repeated_code after-a code-a (field_parts rb m.b)

    code_is : repeated_code before best (parts_at program v.node) ≡ repeated_code after-b code-b (field_parts rc m.c)
    code_is =
        ap (repeated_code before best) (parts_are program v m here roles named)
        ∙ codes_append before best (field_parts ra m.a) _
        ∙ codes_append after-a code-a (field_parts rb m.b) (field_parts rc m.c)

    high-c : none ≤ repeated_code after-b code-b (field_parts rc m.c)
    high-c = omega (arith, code_is)

    high-b : none ≤ code-b
    high-b = omega (arith, high-c, codes-low after-b code-b (field_parts rc m.c))

    high-a : none ≤ code-a
    high-a = omega (arith, high-b, codes-low after-a code-a (field_parts rb m.b))

    a-free : Free before ra m.a
    a-free = field-clear before best ra m.a (part-few ra m.a fit.0) high-a

    b-free : Free after-a rb m.b
    b-free = field-clear after-a code-a rb m.b (part-few rb m.b fit.1) high-b

    c-free : Free after-b rc m.c
    c-free = field-clear after-b code-b rc m.c (part-few rc m.c fit.2) high-c

    size-a : length after-a ≡ 8
    size-a = length-with_bits before (field_parts ra m.a) ∙ size

    c_free_a : Free after-a rc m.c
    c_free_a = free_back after-a size-a rb m.b rc m.c (part-few rb m.b fit.1) c-free

    all-free : fields_free program before v m roles ≡ true
    all-free =
        let few-a = part-few ra m.a fit.0 in
        three-free program before v m roles
        (record {
          a = free-field program before v all ra m.a zeros.0 fit.0 a-free;
          b =
              free-field program before v all rb m.b zeros.1 fit.1
              (free_back before size ra m.a rb m.b few-a b-free);
          c =
              free-field program before v all rc m.c zeros.2 fit.2
              (free_back before size ra m.a rc m.c few-a c_free_a);
          a-b = distinct-back before size ra m.a rb m.b few-a b-free;
          a_c = distinct-back before size ra m.a rc m.c few-a c_free_a;
          b-c = distinct-back after-a size-a rb m.b rc m.c (part-few rb m.b fit.1) c-free;
        })

  pub stuck-by : fields_free program before v m roles ≡ false → node_best program v.node before best < none
  unfolding node_best
  stuck-by stuck =
      let known = known_is program v m here roles named in
      ⊎_elim
      (λ (zero : unnamed_zero (node_at program v.node) ≡ true).
      ⊎_elim
      (λ (fits : node_fits program v.node ≡ true).
      simp (known, zero, fits)
      (elim (dec_lt (repeated_code before best (parts_at program v.node)) none) [
        | yes below ↦ below
        | no above ↦ never (sym (all-free zero fits (omega arith)) ∙ stuck)
      ]))
      (λ (fits : node_fits program v.node ≡ false). simp (known, zero, fits) (omega arith))
      (bool_cases (node_fits program v.node)))
      (λ (zero : unnamed_zero (node_at program v.node) ≡ false). simp (known, zero) (omega arith))
      (bool_cases (unnamed_zero (node_at program v.node)))
