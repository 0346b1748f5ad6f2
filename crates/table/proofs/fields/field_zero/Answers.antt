-- `fields::field_zero` meets its contract: only an unnamed field is compared with 0.
use native.Mathlib.Omega.{arith}
use mathlib.Core.Path.{◌≡◌, sym}
use Rattle.table.specs.declared.fields.Role.TheVariants.{Unnamed}
use Rattle.table.specs.Roles.{field_zero}
use Rattle.table.proofs.RoleLaws.{zero-named}
use Rattle.table.proofs.fields.field_zero.Goals as goal

pub returns-in-Unnamed : goal.returns-in-Unnamed
unfolding field_zero
returns-in-Unnamed c = simp c.in-Unnamed.is

pub returns-in_default : goal.returns-in_default
unfolding field_zero
returns-in_default c =
    sym
    (zero-named c.args.role c.args.value
    (λ (e : c.args.role ≡ Unnamed). grind arith))
