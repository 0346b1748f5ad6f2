-- `well_formed` meets its contract: no question after 12 is asked.
use mathlib.Core.Path.{◌∙◌}
use Rattle.table.proofs.PlaceLaws.{then_none}
use Rattle.sweep.specs.Asked.{asked}
use Rattle.sweep.proofs.well_formed.Goals as goal

pub returns : goal.returns
unfolding asked
returns c = c.ask.ensures ∙ then_none _
