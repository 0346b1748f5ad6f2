-- `process::stack::process_at` meets its contract.
use Rattle.rules.specs.Process.{process_at}
use Rattle.process.proofs.LentLaws.{part-size}
use Rattle.process.proofs.stack.process_at.Goals as goal

pub returns : goal.returns
unfolding process_at
returns c = rw (part-size c.args.p)
