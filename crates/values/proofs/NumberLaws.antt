-- Laws of the numbers of evaluation: a test as a number, a quotient or 0, and the operator that a kind names.
use Rattle.std.proofs.Common.{◌≡◌, ℕ, ◌-◌, ◌<◌, ◌≤◌, Bool, true, false, cond, eqb, [], ◌∷◌, Option, Some, None, refl, eq-eqb, ne_eqb, arith}
use Rattle.std.specs.Option.{SomeIff, unwrap_or}
use lib.ListN.{get_or-eq_default}
use mir.Val.{bool_byte}
use Rattle.rules.specs.Evaluation.{bit}
use Rattle.rules.specs.Table.{sum, difference, product, quotient, less, equal, both}
use Rattle.values.specs.Given.{operator_of}

-- what `u32::from` makes of a test
pub bit-byte : (test : Bool) → bool_byte test ≡ bit test
bit-byte true = refl
bit-byte false = refl

-- "0 if B is 0"
pub quotient_or_zero : (y q : ℕ) (found : Option ℕ) → SomeIff found (0 < y) q → unwrap_or found 0 ≡ cond (eqb y 0) 0 q
quotient_or_zero y q None none = simp (eq-eqb y 0 (omega (arith, none)))
quotient_or_zero y q (Some x) (some, e) = simp (ne_eqb y 0 (omega arith)) e

pub operator_both : (kind : ℕ) → 12 ≤ kind → operator_of kind ≡ both
unfolding operator_of
operator_both kind h =
    get_or-eq_default (sum ∷ difference ∷ product ∷ quotient ∷ less ∷ equal ∷ []) both
    {n = kind - 6} (omega arith)
