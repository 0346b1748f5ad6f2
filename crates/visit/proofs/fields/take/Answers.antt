-- `fields::take` meets its contract: what a field names is marked.
use mathlib.Core.Path.{sym, ◌∙◌}
use Rattle.table.specs.Marks.{with_bits}
use Rattle.table.specs.Roles.{field_parts}
use Rattle.visit.proofs.fields.take.Goals as goal

pub returns-then-is_part : goal.returns-then-is_part
unfolding with_bits field_parts
returns-then-is_part c = simp (sym c.is_part.ensures ∙ c.if-is_part.true, c.mark.ensures)

pub returns-else-is_part : goal.returns-else-is_part
unfolding with_bits field_parts
returns-else-is_part c = simp (sym c.is_part.ensures ∙ c.if-is_part.false)
