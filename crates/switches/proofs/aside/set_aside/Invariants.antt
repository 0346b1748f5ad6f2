-- `aside::set_aside` meets its contract. The loop's invariant: the nodes from n on are passed.
use Rattle.rules.specs.Table.{decode}
use Rattle.switches.proofs.AsideLaws.{AsideTo}
use Rattle.switches.proofs.aside.set_aside.Given as goal

abbrev pub invariant-loop-n : goal.invariant-loop-n
invariant-loop-n l = AsideTo (decode l.table.bytes.now) l.n l.aside
