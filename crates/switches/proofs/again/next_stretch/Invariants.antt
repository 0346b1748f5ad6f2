-- `again::next_stretch` meets its contract. The loop's invariant: each node so far is marked.
use Rattle.switches.specs.Again.{AllMarked}
use Rattle.switches.specs.Aside.{aside_plane}
use Rattle.switches.proofs.again.next_stretch.Given as goal

abbrev pub invariant-loop-first : goal.invariant-loop-first
invariant-loop-first l = AllMarked (aside_plane l.planes) l.n l.first
