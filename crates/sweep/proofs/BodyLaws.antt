-- The procedures: no step raises the least refusal, and the bit of a body says whether it passes 17.
use mathlib.Core.Bool.{Bool, true, false, cond, not, ◌||◌}
use mathlib.Core.List.{List}
use mathlib.Core.Path.{◌≡◌, refl, ap}
use Prim.Native.Nat.{ℕ, ◌*◌, ◌≤◌, ◌<◌, min}
use native.Mathlib.Omega.{arith}
use lib.Dec.{ltb}
use lib.ListN.{length}
use borrow.Rule.Slice.PartMut.{mid_of}
use Rattle.rules.specs.Table.{Program, decode, procedures, nodes, body, effect_flag}
use Rattle.rules.specs.WellFormed.{procedure_fits, is_statement}
use Rattle.table.specs.declared.Header.{Header}
use Rattle.table.specs.Marks.{bit_at}
use Rattle.table.specs.Sized.{Sized}
use Rattle.table.proofs.ShapeLaws.{sized}
use Rattle.visit.specs.Exact.{noted_code}
use Rattle.visit.specs.Fields.{facts_plane, plane_words, all_planes}
use Rattle.visit.specs.Least.{none, code, failure}
use Rattle.visit.proofs.PlaneLaws.{facts-lent, facts-length}
use Rattle.visit.proofs.StuckLaws.{noted-low}
use Rattle.sweep.specs.Asked.{Filled, effect_code}
use Rattle.sweep.specs.Swept.{body_best, unused_best, AfterBodies, Uses}
use Rattle.sweep.proofs.EndLaws.{swept_verdict}
use Rattle.sweep.proofs.FormedLaws.{fits}

-- no step raises the least refusal

module _ (table : List ℕ) (p : ℕ) (marks : List ℕ) (best : ℕ) where
  best_lower : body_best table p marks best ≤ best
  unfolding body_best
  best_lower = by_two (procedure_fits table p) (is_statement (decode table) (body (decode table) p))
    where
      by_two : (a b : Bool)
          → cond a (cond b (noted_code marks best (body (decode table) p)) (min best (code 10 p))) (min best (code 6 p)) ≤ best
      by_two true true = noted-low marks best (body (decode table) p)
      by_two true false = omega arith
      by_two false b = omega arith

  pub body-lower : {r first : ℕ} → r ≡ body_best table p marks best → best ≤ first → r ≤ first
  body-lower e l = omega (arith, e, best_lower)

unused-lower : (count : ℕ) (marks : List ℕ) (best : ℕ) → unused_best count marks best ≤ best
unfolding unused_best
unused-lower count marks best = by-test (ltb best (code 11 0)) _
  where
    by-test : (early : Bool) (other : ℕ) → cond early best (min best other) ≤ best
    by-test true other = omega arith
    by-test false other = omega arith

-- the answer of the sweep, once the nodes that are not used are known
pub uses-met : {table marks : List ℕ} {header : Header} {first best r : ℕ} → Sized table header → AfterBodies table best marks
    → best ≤ first
    → r ≡ unused_best header.nodes marks best
    → Uses table first r
uses-met {table} {marks} {header} {first} {best} {r} sized swept lower e =
    let is : r ≡ unused_best (nodes (decode table)) marks best = rw sized.nodes-read at e in
    let met = swept_verdict table header sized best marks swept in
    record {
      verdict = rw is met.0;
      high = rw is met.1;
      lower = omega (arith, is, unused-lower (nodes (decode table)) marks best);
    }

-- the body of a procedure of a table that passes 6 to 11
module _ {table : List ℕ} (filled : Filled table) {p : ℕ} (l : p < procedures (decode table)) where
  body_below : body (decode table) p < nodes (decode table)
  body_below = (fits filled).bodies p l

  module _ (planes : List ℕ) (size : length planes ≡ all_planes) where
    -- the body is a place of the plane that is lent
    pub body-lent : {n : ℕ} → n ≡ body (decode table) p → n < 32 * length (mid_of plane_words plane_words planes)
    body-lent e =
        omega (arith, e, body_below, (sized table filled.shaped).nodes-high, ap length (facts-lent planes size), facts-length planes size)

    pub marked-body : {r : Bool} {n : ℕ} → n ≡ body (decode table) p → r ≡ bit_at (mid_of plane_words plane_words planes) n
        → r ≡ bit_at (facts_plane planes) (body (decode table) p)
    marked-body e is = rw (facts-lent planes size, e) at is

-- question 17 of a procedure by the bit of its body and by its flag
module _ (program : Program) (facts : List ℕ) (p : ℕ) where
  pub flag_local : bit_at facts (body program p) ≡ false → effect_code program facts p ≡ none
  unfolding effect_code
  flag_local e = simp e

  pub flag_set : effect_flag program p ≡ true → effect_code program facts p ≡ none
  unfolding effect_code
  flag_set e = rw e (either (bit_at facts (body program p)))
    where
      either : (x : Bool) → failure 17 p (not x || true) ≡ none
      either true = refl
      either false = refl

  pub flag_missing : bit_at facts (body program p) ≡ true → effect_flag program p ≡ false → effect_code program facts p ≡ code 17 p
  unfolding effect_code
  flag_missing e f = simp (e, f)
