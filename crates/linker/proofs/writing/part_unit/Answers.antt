-- `writing::part_unit` meets its contract: each kind's entry of the list `units`.
use mathlib.Core.Logic.{⊎_elim}
use mathlib.Core.Path.{◌≡◌, sym, ◌∙◌}
use native.Mathlib.Omega.{arith}
use Rattle.linker.proofs.WordLaws.{units, units_of, units_operation, units_read, units_few, units_none}
use Rattle.linker.proofs.writing.part_unit.Goals as goal

pub returns-in-17 : goal.returns-in-17
unfolding units
returns-in-17 c = λ x y z. simp c.in-17.is (units_of (record { kind = 17; a = x; b = y; c = z }))

pub returns-in-18 : goal.returns-in-18
unfolding units
returns-in-18 c = λ x y z. simp c.in-18.is (units_of (record { kind = 18; a = x; b = y; c = z }))

pub returns-in-19 : goal.returns-in-19
unfolding units
returns-in-19 c = λ x y z. simp c.in-19.is (units_of (record { kind = 19; a = x; b = y; c = z }))

pub returns-in-24 : goal.returns-in-24
unfolding units
returns-in-24 c = λ x y z. simp c.in-24.is (units_of (record { kind = 24; a = x; b = y; c = z }))

pub returns-in-20 : goal.returns-in-20
unfolding units
returns-in-20 c = λ x y z.
    ⊎_elim (λ (e : c.args.kind ≡ 20). simp e (units_of (record { kind = 20; a = x; b = y; c = z })))
    (λ (e : c.args.kind ≡ 22). simp e (units_of (record { kind = 22; a = x; b = y; c = z }))) c.in-20.is

pub returns-in-6 : goal.returns-in-6
returns-in-6 c = λ x y z.
    sym (units_operation c.args.kind (omega arith) (omega arith)) ∙ units_of (record { kind = c.args.kind; a = x; b = y; c = z })

pub returns-in_default : goal.returns-in_default
returns-in_default c = λ x y z.
    sym (units_few c.args.kind (omega arith)) ∙ units_of (record { kind = c.args.kind; a = x; b = y; c = z })

pub returns-in_default-2 : goal.returns-in_default-2
returns-in_default-2 c = λ x y z.
    sym (units_none c.args.kind (omega arith) (λ e. omega arith) (λ e. omega arith) (λ e. omega arith) (λ e. grind arith)
    (λ e. grind arith) (λ e. omega arith) (λ e. omega arith))
    ∙ units_of (record { kind = c.args.kind; a = x; b = y; c = z })

pub returns-in-4 : goal.returns-in-4
unfolding units
returns-in-4 c = λ x y z. simp c.in-4.is (units_of (record { kind = 25; a = x; b = y; c = z }))

pub returns-in-4-2 : goal.returns-in-4-2
returns-in-4-2 c = λ x y z.
    sym (units_read c.args.kind (omega arith) (omega arith)) ∙ units_of (record { kind = c.args.kind; a = x; b = y; c = z })
