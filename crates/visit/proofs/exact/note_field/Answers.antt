-- `exact::note_field` meets its contract: a field notes the node that it names, if it names one.
use mathlib.Core.Path.{sym, ◌∙◌}
use Rattle.table.specs.Roles.{field_parts}
use Rattle.table.specs.Marks.{with_bits}
use Rattle.visit.specs.Exact.{repeated_code}
use Rattle.visit.proofs.exact.note_field.Goals as goal

pub returns-then-is_part : goal.returns-then-is_part
unfolding field_parts with_bits repeated_code
returns-then-is_part c =
    let part = sym c.is_part.ensures ∙ c.if-is_part.true in
    (simp (part, c.note.ensures.0), simp (part, c.note.ensures.1))

pub returns : goal.returns
unfolding field_parts with_bits repeated_code
returns c =
    let part = sym c.is_part.ensures ∙ c.if-is_part.false in
    (simp part, simp part)
