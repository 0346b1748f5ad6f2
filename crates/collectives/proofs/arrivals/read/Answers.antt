-- `collectives::arrivals::read` meets its contract.
use Rattle.collectives.specs.Given.{arrival_at}
use Rattle.collectives.proofs.arrivals.read.Goals as goal

pub returns : goal.returns
unfolding arrival_at
returns c =
    simp (
      c.status_of.ensures,
      c.status_at.ensures,
      c.node_of.ensures,
      c.value_of.ensures,
      c.source_of.ensures,
    )
