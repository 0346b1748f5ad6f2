-- `ffi::fc_link` meets its contract, from those of its callees.
use mathlib.Core.Path.{◌∙◌, ap}
use Rattle.ffi.specs.Numbers.{link_numbers}
use Rattle.ffi.proofs.fc_link.Goals as goal

pub returns : goal.returns
returns c = (
  c.from.ensures ∙ ap link_numbers c.link_tables.ensures.0,
  c.link_tables.ensures.1,
)
