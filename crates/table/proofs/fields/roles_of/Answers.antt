-- `fields::roles_of` meets its contract: each kind's entry of the list `roles`, and no field of any other is named.
use native.Mathlib.Omega.{arith}
use mathlib.Core.Logic.{⊎_elim}
use mathlib.Core.Path.{◌≡◌, sym}
use Rattle.table.specs.Roles.{roles, roles_of}
use Rattle.table.proofs.RoleLaws.{roles-few, roles-operation, roles-none}
use Rattle.table.proofs.fields.roles_of.Goals as goal

pub returns-in-0 : goal.returns-in-0
unfolding roles_of roles
returns-in-0 c = simp c.in-0.is

pub returns-in-1 : goal.returns-in-1
unfolding roles_of roles
returns-in-1 c = simp c.in-1.is

pub returns-in-4 : goal.returns-in-4
unfolding roles_of roles
returns-in-4 c = simp c.in-4.is

pub returns-in-17 : goal.returns-in-17
unfolding roles_of roles
returns-in-17 c = simp c.in-17.is

pub returns-in-18 : goal.returns-in-18
unfolding roles_of roles
returns-in-18 c = simp c.in-18.is

pub returns-in-19 : goal.returns-in-19
unfolding roles_of roles
returns-in-19 c = simp c.in-19.is

pub returns-in-20 : goal.returns-in-20
unfolding roles_of roles
returns-in-20 c = simp c.in-20.is

pub returns-in-21 : goal.returns-in-21
unfolding roles_of roles
returns-in-21 c = simp c.in-21.is

pub returns-in-24 : goal.returns-in-24
unfolding roles_of roles
returns-in-24 c = simp c.in-24.is

pub returns-in-5 : goal.returns-in-5
unfolding roles_of roles
returns-in-5 c = ⊎_elim (λ (e : c.args.kind ≡ 5). simp e) (λ (e : c.args.kind ≡ 25). simp e) c.in-5.is

pub returns-in-6 : goal.returns-in-6
unfolding roles_of roles
returns-in-6 c = simp c.in-6.is

pub returns-in-6-2 : goal.returns-in-6-2
returns-in-6-2 c =
    let other : c.args.kind ≡ 5 → ⊥ = λ e. grind arith in
    sym (roles-operation c.args.kind (omega (arith, other)) (omega arith))

pub returns-in_default : goal.returns-in_default
returns-in_default c = sym (roles-few c.args.kind (omega arith) (λ e. omega arith) (λ e. omega arith))

pub returns-in_default-2 : goal.returns-in_default-2
returns-in_default-2 c =
    sym
    (roles-none c.args.kind (omega arith) (λ e. omega arith) (λ e. omega arith) (λ e. omega arith) (λ e. omega arith)
    (λ e. omega arith) (λ e. omega arith) (λ e. omega arith) (λ e. grind arith))
