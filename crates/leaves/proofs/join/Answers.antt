-- `join` meets its contract: each plane is lent in turn.
use Rattle.visit.proofs.PlaneLaws.{leaves-lent}
use Rattle.leaves.proofs.PassLaws.{joined-put}
use Rattle.leaves.proofs.join.Goals as goal

pub returns : goal.returns
returns c =
    let size = c.requires.1 in
    joined-put _ _ _ _ _ _ _ _ _ size c.either_holds-held.ensures
    (c.left_by-left.ensures) (rw (leaves-lent _ size) at c.mark_if.ensures) c.mark_if-2.ensures
