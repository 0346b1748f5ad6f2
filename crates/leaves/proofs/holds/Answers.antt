-- `holds` meets its contract: the part lent is the plane of leaves.
use Rattle.visit.proofs.PlaneLaws.{leaves-lent}
use Rattle.leaves.proofs.holds.Goals as goal

pub returns : goal.returns
returns c = let size = c.requires in rw (leaves-lent _ size) at c.marked.ensures
