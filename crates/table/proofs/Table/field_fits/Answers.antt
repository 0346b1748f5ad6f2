-- `Table::field_fits` meets its contract: each role in turn.
use mathlib.Core.Logic.{⊎_elim}
use mathlib.Core.Path.{◌≡◌}
use Rattle.table.specs.declared.fields.Role.TheVariants.{Unnamed, Half}
use Rattle.table.specs.Roles.{field_fits}
use Rattle.table.proofs.Table.field_fits.Goals as goal

pub returns-in-Variable : goal.returns-in-Variable
unfolding field_fits
returns-in-Variable c = simp (c.in-Variable.is, c.args.self.now.sized.variables-read)

pub returns-in-Expression : goal.returns-in-Expression
unfolding field_fits
returns-in-Expression c = simp (c.in-Expression.is, c.expression_part.ensures)

pub returns-in-Statement : goal.returns-in-Statement
unfolding field_fits
returns-in-Statement c = simp (c.in-Statement.is, c.statement_part.ensures)

pub returns-in-Procedure : goal.returns-in-Procedure
unfolding field_fits
returns-in-Procedure c = simp (c.in-Procedure.is, c.args.self.now.sized.procedures-read)

pub returns-in-Area : goal.returns-in-Area
unfolding field_fits
returns-in-Area c = simp (c.in-Area.is)

pub returns-in-Unnamed : goal.returns-in-Unnamed
unfolding field_fits
returns-in-Unnamed c =
    ⊎_elim (λ (e : c.args.role ≡ Unnamed). simp e) (λ (e : c.args.role ≡ Half). simp e) c.in-Unnamed.is
