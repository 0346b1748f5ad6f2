-- `process::step::call` meets its contract.
use Rattle.process.proofs.step.call.Goals as goal

pub returns : goal.returns
returns c = rw (← c.body-entry.ensures) c.replace.ensures
