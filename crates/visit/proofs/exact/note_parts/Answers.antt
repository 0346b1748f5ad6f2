-- `exact::note_parts` meets its contract: the three fields are noted one after the other.
use native.Mathlib.Omega.{arith}
use Rattle.visit.proofs.QuickLaws.{markable, a-below, b-below, c-below, three-codes}
use Rattle.visit.proofs.exact.note_parts.Goals as goal

pub note_field-after_a-requires : goal.note_field-after_a-requires
note_field-after_a-requires c =
    let given = c.requires in
    let below = a-below _ _ _ c.node_at-node.ensures given.2 c.roles_of-roles.ensures in
    (λ part. markable c.args.table.now.sized given.0 (below part), given.1)

pub note_field-after_b-requires : goal.note_field-after_b-requires
note_field-after_b-requires c =
    let given = c.requires in
    let below = b-below _ _ _ c.node_at-node.ensures given.2 c.roles_of-roles.ensures in (
      λ part. markable c.args.table.now.sized given.0 (below part),
      omega (arith, c.note_field-after_a.auto.marks, given.1),
    )

pub note_field-requires : goal.note_field-requires
note_field-requires c =
    let given = c.requires in
    let below = c-below _ _ _ c.node_at-node.ensures given.2 c.roles_of-roles.ensures in (
      λ part. markable c.args.table.now.sized given.0 (below part),
      omega (arith, c.note_field-after_a.auto.marks, c.note_field-after_b.auto.marks, given.1),
    )

pub returns : goal.returns
returns c =
    three-codes _ _ _ _ _ _ _ _ _ _ _ _ c.node_at-node.ensures
    c.roles_of-roles.ensures
    c.note_field-after_a.ensures c.note_field-after_b.ensures c.note_field.ensures
