-- `ask` meets its contract: 2 to 5 first, and the rest of a table that passes them.
use mathlib.Core.Path.{◌∙◌, sym}
use Rattle.std.proofs.lemmas.Result.{err_from_is_err_and}
use Rattle.sweep.proofs.FormedLaws.{misshapen, shaped}
use Rattle.sweep.proofs.ask.Goals as goal

pub returns-in_err-shape : goal.returns-in_err-shape
returns-in_err-shape c =
    let failed = c.in_err-shape.was in
    let p = err_from_is_err_and c.from_residual.result c.from_residual.ensures.1 in
    rw (p.1, p.2) (sym failed ∙ c.shape.ensures ∙ misshapen _ _ (sym c.shape.ensures ∙ failed))

pub returns : goal.returns
returns c = c.ask_contents.ensures ∙ rw c.of.ensures (shaped _ _ (sym c.shape.ensures ∙ c.in_ok-shape.was))
