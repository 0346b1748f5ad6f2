-- `input::behind` meets its contract.
use Rattle.rules.specs.Input.{behind}
use mathlib.Core.Path.{◌∙◌, ap}
use lib.ListN.{drop}
use Rattle.input.proofs.behind.Goals as goal

pub returns : goal.returns
unfolding behind
returns c = c.rest.ensures ∙ ap (λ n. drop n c.args.input.now) c.end_behind.ensures
