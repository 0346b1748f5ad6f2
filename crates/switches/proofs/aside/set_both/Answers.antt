-- `aside::set_both` meets its contract.
use mathlib.Core.Path.{◌∙◌, ap}
use Rattle.table.specs.Marks.{with_bit, with_bits}
use Rattle.switches.proofs.aside.set_both.Goals as goal

pub returns : goal.returns
unfolding with_bits
returns c = c.mark-2.ensures ∙ ap (λ marks. with_bit marks c.args.y) c.mark.ensures
