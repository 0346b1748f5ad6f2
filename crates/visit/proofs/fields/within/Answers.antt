-- `fields::within` meets its contract: one test by the role.
use native.Mathlib.Omega.{arith}
use mathlib.Core.Path.{◌≡◌, sym}
use Rattle.table.specs.declared.fields.Role.TheVariants.{Procedure}
use Rattle.visit.specs.Fields.{within}
use Rattle.visit.proofs.QuickLaws.{within-other}
use Rattle.visit.proofs.fields.within.Goals as goal

pub returns-in-Procedure : goal.returns-in-Procedure
unfolding within
returns-in-Procedure c = simp c.in-Procedure.is

pub returns-in_default : goal.returns-in_default
returns-in_default c =
    sym
    (within-other c.args.visit.limit c.args.role c.args.value
    (λ (e : c.args.role ≡ Procedure). grind arith))
