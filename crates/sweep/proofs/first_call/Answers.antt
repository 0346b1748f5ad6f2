-- `first_call` meets its contract: the lent plane is cleared before the walk, and the other planes stay as they are.
use mathlib.Core.Path.{refl, ◌∙◌, ap}
use lib.ListN.{length}
use borrow.Rule.Slice.PartMut.{mid_of}
use Rattle.table.proofs.BitLaws.{cleared}
use Rattle.visit.specs.Fields.{plane_words}
use Rattle.visit.proofs.PlaneLaws.{used-length, used_put_used}
use Rattle.sweep.proofs.FormedLaws.{fits, none_miscalled}
use Rattle.sweep.proofs.first_call.Goals as goal

pub returns-then-ordered : goal.returns-then-ordered
returns-then-ordered c =
    let given = c.requires in
    record { first = c.args.table.now.sized.nodes-read ∙ none_miscalled given.0 (given.2 c.if-ordered.true); facts = refl; leaves = refl; size = given.1 }

pub first_miscalled-requires : goal.first_miscalled-requires
first_miscalled-requires c =
    let planes = c.args.planes.now in
    let size = c.requires.1 in
    let words = c.clear.new.marks in
    let zero = cleared words (mid_of 0 plane_words planes) c.clear.ensures (used-length planes size) in
    (fits c.requires.0, used_put_used planes size words (ap length zero) ∙ zero)
