-- `input::table_bytes` meets its contract.
use Rattle.rules.specs.Input.{table_bytes}
use Rattle.input.proofs.table_bytes.Goals as goal

pub returns : goal.returns
unfolding table_bytes
returns c = cc
