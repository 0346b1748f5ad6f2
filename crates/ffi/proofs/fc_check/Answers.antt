-- `ffi::fc_check` meets its contract, from those of its callees.
use mathlib.Core.Path.{◌∙◌, ap}
use Rattle.ffi.specs.Numbers.{verdict_number}
use Rattle.ffi.proofs.fc_check.Goals as goal

pub returns : goal.returns
returns c = (
  c.verdict_number.ensures ∙ ap verdict_number c.check.ensures.0,
  c.check.ensures.1,
)
