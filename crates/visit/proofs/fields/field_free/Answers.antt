-- `fields::field_free` meets its contract: a part that fits is below the node, so it has a mark.
use native.Mathlib.Omega.{arith}
use mathlib.Core.Bool.{true}
use mathlib.Core.Path.{◌≡◌, sym, ◌∙◌}
use Rattle.rules.specs.Table.{decode}
use Rattle.table.proofs.FittingLaws.{part-below}
use Rattle.table.proofs.TestLaws.{never}
use Rattle.table.specs.Roles.{field_fits}
use Rattle.visit.proofs.fields.field_free.Goals as goal
use Rattle.visit.proofs.fields.field_free.Goals.{then-field_zero, else-field_zero, then-field_fits, else-field_fits}

pub marked-requires : goal.marked-requires
marked-requires c =
    let given = c.requires in
    let fits : field_fits (decode c.args.table.now.bytes.now) c.args.visit.node c.args.role c.args.value ≡ true =
    elim c.if-field_fits.branch [
      | then-field_fits w ↦ elim c.if-field_zero.branch [
        | then-field_zero v ↦ sym v.field_fits.ensures ∙ sym v.value-is ∙ w.if-field_fits.true
        | else-field_zero v ↦ never (sym w.if-field_fits.true ∙ v.value-is ∙ v.if-field_zero.false)
      ]
      | else-field_fits w ↦ never (sym c.if-within.true ∙ w.value-is ∙ w.if-field_fits.false)
    ] in
    let below = part-below _ _ _ _ fits (sym c.is_part.ensures ∙ c.if-not-is_part.false) in
    omega (arith, below, c.args.table.now.sized.nodes-high, c.args.table.now.sized.nodes-read, given.0, given.1)
