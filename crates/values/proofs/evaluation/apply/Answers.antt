-- `values::evaluation::apply` meets its contract.
use Rattle.std.proofs.Common.{◌∙◌, ap, arith, eq-eqb, ne_eqb}
use Rattle.values.proofs.NumberLaws.{bit-byte, quotient_or_zero, operator_both}
use Rattle.values.specs.Given.{operator_of}
use Rattle.rules.specs.Evaluation.{applied, bit}
use Rattle.values.proofs.evaluation.apply.Goals as goal
use Rattle.values.proofs.evaluation.apply.Goals.{then-x-ne0, else-x-ne0}

pub returns-in-6 : goal.returns-in-6
unfolding applied operator_of
returns-in-6 c = simp c.in-6.is

pub returns-in-7 : goal.returns-in-7
unfolding applied operator_of
returns-in-7 c = simp c.in-7.is (omega arith)

pub returns-in-8 : goal.returns-in-8
unfolding applied operator_of
returns-in-8 c = simp c.in-8.is

pub returns-in-9 : goal.returns-in-9
unfolding applied operator_of
returns-in-9 c = simp c.in-9.is (c.unwrap_or.ensures ∙ quotient_or_zero _ _ _ c.checked_div.ensures)

pub returns-in-10 : goal.returns-in-10
unfolding applied operator_of
returns-in-10 c = simp c.in-10.is (c.from.ensures ∙ bit-byte _)

pub returns-in-11 : goal.returns-in-11
unfolding applied operator_of
returns-in-11 c = simp c.in-11.is (c.from-in-11.ensures ∙ bit-byte _)

pub returns-after-x-ne0 : goal.returns-after-x-ne0
unfolding applied
returns-after-x-ne0 c =
    rw (operator_both c.args.kind (omega arith))
    (c.from-in_default.ensures
    ∙ bit-byte _
    ∙ ap (λ test. bit test)
    (elim c.if-x-ne0.branch [
      | then-x-ne0 w ↦ rw (ne_eqb _ _ w.if-x-ne0.true) w.from-is
      | else-x-ne0 w ↦ let e = eq-eqb c.args.x 0 w.if-x-ne0.false in rw e (rw e at w.from-is)
    ]))
