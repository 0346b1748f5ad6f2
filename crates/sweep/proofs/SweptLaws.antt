-- What a sweep keeps: a refusal by an earlier question, or marks of all uses so far and the lowest node used twice.
use mathlib.Core.Bool.{Bool, true, false}
use mathlib.Core.List.{List, [], ◌∷◌, ◌++◌}
use mathlib.Core.Logic.{⊎_elim}
use mathlib.Core.Path.{◌≡◌, refl, sym, ◌∙◌, ap}
use Prim.Native.Nat.{ℕ, ◌+◌, ◌≤◌, ◌<◌, min}
use native.Mathlib.Decide.{dec_lt}
use native.Mathlib.Numerals.{add-one}
use native.Mathlib.Omega.{arith}
use lib.Dec.{ltb}
use borrow.Author.Tests.{lt-ltb, le-ltb}
use Rattle.rules.specs.Table.{Program, nodes, node_at}
use Rattle.rules.specs.WellFormed.{kind_known, unnamed_zero, node_fits, parts_at, joined}
use Rattle.rules.proofs.ChoiceLaws.{bool_cases}
use Rattle.table.specs.declared.fields.Role.{Role}
use Rattle.table.specs.Marks.{bit_at, with_bit, with_bits}
use Rattle.table.specs.Roles.{roles_of, is_part, field_fits, field_parts}
use Rattle.table.specs.Uses.{noted, repeated}
use Rattle.table.proofs.FittingLaws.{part-below, fields_fit}
use Rattle.table.proofs.OnceLaws.{zeros}
use Rattle.table.proofs.RoleLaws.{parts_law}
use Rattle.table.proofs.UseLaws.{bits_append, repeated_append}
use Rattle.visit.specs.Least.{none, code, failure, least_below}
use Rattle.visit.specs.Exact.{noted_code, repeated_code, node_best, node_marks}
use Rattle.sweep.specs.Swept.{misused, Swept, failed, clean, node_code, SweptTo}
use Rattle.visit.proofs.LeastLaws.{least_more, least-high}

-- the nodes of a list lie below a bound
pub data Inside (count : ℕ) : List ℕ → Type 0 where
  empty : Inside count []
  more : {n : ℕ} {list : List ℕ} → n < count → Inside count list → Inside count (n ∷ list)

inside_append : {count : ℕ} {a b : List ℕ} → Inside count a → Inside count b → Inside count (a ++ b)
inside_append empty k = k
inside_append (more l h) k = more l (inside_append h k)

-- a use more moves no refusal by an earlier question
noted-low : (m : List ℕ) (best n : ℕ) → best < code 11 0 → noted_code m best n ≡ best
unfolding noted_code
noted-low m best n l =
    ⊎_elim (λ (e : bit_at m n ≡ true). simp e (omega arith)) (λ (e : bit_at m n ≡ false). simp e) (bool_cases (bit_at m n))

repeated-low : (m : List ℕ) (best : ℕ) (list : List ℕ) → best < code 11 0 → repeated_code m best list ≡ best
unfolding repeated_code
repeated-low m best [] l = refl
repeated-low m best (n ∷ list) l = rw (noted-low m best n l) (repeated-low (with_bit m n) best list l)

-- the code of the lowest node used twice
pub misused-low : (count place : ℕ) → code 11 0 ≤ misused count place
misused-low count place =
    ⊎_elim (λ (e : ltb place count ≡ true). simp e (omega arith)) (λ (e : ltb place count ≡ false). simp e (omega arith))
    (bool_cases (ltb place count))

misused-min : (count x low : ℕ) → count ≤ 256 → x < count → min (misused count low) (code 11 x) ≡ misused count (min x low)
misused-min count x low few l =
    elim (dec_lt low count) [
      | yes inside ↦ simp (lt-ltb low count inside, lt-ltb (min x low) count (omega arith)) (omega arith)
      | no outside ↦
          let e : min x low ≡ x = omega arith in
          simp (le-ltb low count (omega arith), e, lt-ltb x count l) (omega arith)
    ]

noted-code : (m : List ℕ) (count low n : ℕ) → count ≤ 256 → n < count
    → noted_code m (misused count low) n ≡ misused count (noted m low n)
unfolding noted_code noted
noted-code m count low n few l =
    ⊎_elim (λ (e : bit_at m n ≡ true). simp e (misused-min count n low few l)) (λ (e : bit_at m n ≡ false). simp e)
    (bool_cases (bit_at m n))

repeated-code : (count : ℕ) (m : List ℕ) (low : ℕ) {list : List ℕ} → count ≤ 256 → Inside count list
    → repeated_code m (misused count low) list ≡ misused count (repeated m low list)
unfolding repeated_code repeated
repeated-code count m low few empty = refl
repeated-code count m low few (more {n} {list} l h) =
    rw (noted-code m count low n few l) (repeated-code count (with_bit m n) (noted m low n) few h)

-- one step of a sweep: a refusal by an earlier question, or uses

module _ {count early best : ℕ} {list marks : List ℕ} (few : count ≤ 256) where
  pub fails : (code₁ : ℕ) (list' marks' : List ℕ) → code₁ < code 11 0 → Swept count early list best marks
      → Swept count (min early code₁) list' (min best code₁) marks'
  fails f list' marks' l (failed e low) = failed (rw e) (omega arith)
  fails f list' marks' l (clean e is m) =
      failed (rw e (omega (arith, is, misused-low count (repeated zeros count list)))) (omega arith)

  pub passes : (parts : List ℕ) → (early ≡ none → Inside count parts) → Swept count early list best marks
      → Swept count early (list ++ parts) (repeated_code marks best parts) (with_bits marks parts)
  passes parts inside (failed e low) = failed (repeated-low marks best parts (omega arith) ∙ e) low
  passes parts inside (clean e is m) =
      clean e
      (rw (is, m) (repeated-code count (with_bits zeros list) (repeated zeros count list) few (inside e)
      ∙ ap (misused count) (sym (repeated_append zeros count list parts))))
      (rw m (sym (bits_append zeros list parts)))

-- a node

field-inside : (program : Program) (n count : ℕ) (role : Role) (value : ℕ) → n < count → field_fits program n role value ≡ true
    → Inside count (field_parts role value)
unfolding field_parts
field-inside program n count role value below fits =
    ⊎_elim
    (λ (e : (is_part role) ≡ true).
    simp e (more {n = value} (omega (arith, part-below program n role value fits e)) empty))
    (λ (e : (is_part role) ≡ false). simp e empty)
    (bool_cases (is_part role))

parts-inside : (program : Program) (n count : ℕ) → n < count → node_fits program n ≡ true → Inside count (parts_at program n)
parts-inside program n count below fits =
    let m = node_at program n in
    let fit = fields_fit program n fits in
    rw (parts_law program n)
    (inside_append (field-inside program n count (roles_of m.kind).a m.a below fit.0)
    (inside_append (field-inside program n count (roles_of m.kind).b m.b below fit.1)
    (field-inside program n count (roles_of m.kind).c m.c below fit.2)))

pub joined-more : (list : ℕ → List ℕ) (n : ℕ) → joined list (n + 1) ≡ joined list n ++ list n
unfolding joined
joined-more list n = rw (add-one n)

module _ (program : Program) (few : nodes program ≤ 256) (n : ℕ) (below : n < nodes program) (best : ℕ) (marks : List ℕ) where
  abbrev Now : Type 0
  Now = SweptTo program n best marks

  abbrev Next : Type 0
  Next = SweptTo program (n + 1) (node_best program n marks best) (node_marks program n marks)

  node-fails : (f : ℕ) → node_code program n ≡ f → f < code 11 0 → node_best program n marks best ≡ min best f → Now → Next
  node-fails f e low answer so_far =
      rw (least_more (node_code program) n, e, answer) (fails few f _ _ low so_far)

  least8 : (fits : Bool) → min none (min (code 8 n) (failure 9 n fits)) ≡ code 8 n
  least8 true = omega arith
  least8 false = omega arith

  least7 : (zero fits : Bool) → min (code 7 n) (min (failure 8 n zero) (failure 9 n fits)) ≡ code 7 n
  least7 true true = omega arith
  least7 true false = omega arith
  least7 false true = omega arith
  least7 false false = omega arith

  node-passes : kind_known program n ≡ true → unnamed_zero (node_at program n) ≡ true → node_fits program n ≡ true → Now → Next
  unfolding node_code node_best node_marks
  node-passes known unnamed fits so_far =
      let passed : node_code program n ≡ none = simp (known, unnamed, fits) (omega arith) in
      let high : min (least_below (node_code program) n) none ≡ least_below (node_code program) n =
      omega (arith, least-high (node_code program) n) in
      simp (known, unnamed, fits)
      (rw (least_more (node_code program) n, passed, high, joined-more (parts_at program) n)
      (passes few (parts_at program n) (λ e. parts-inside program n (nodes program) below fits) so_far))

  pub node_swept : Now → Next
  unfolding node_code node_best
  node_swept so_far =
      ⊎_elim
      (λ (known : kind_known program n ≡ true).
      ⊎_elim
      (λ (zero : unnamed_zero (node_at program n) ≡ true).
      ⊎_elim
      (λ (fits : node_fits program n ≡ true). node-passes known zero fits so_far)
      (λ (fits : node_fits program n ≡ false).
      node-fails (code 9 n) (simp (known, zero, fits) (omega arith)) (omega arith) (simp (known, zero, fits)) so_far)
      (bool_cases (node_fits program n)))
      (λ (zero : unnamed_zero (node_at program n) ≡ false).
      node-fails (code 8 n) (simp (known, zero) (least8 (node_fits program n))) (omega arith) (simp (known, zero)) so_far)
      (bool_cases (unnamed_zero (node_at program n))))
      (λ (known : kind_known program n ≡ false).
      node-fails (code 7 n) (simp known (least7 (unnamed_zero (node_at program n)) (node_fits program n))) (omega arith) (simp known)
      so_far)
      (bool_cases (kind_known program n))
