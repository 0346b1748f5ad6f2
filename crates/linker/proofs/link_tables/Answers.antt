-- `link_tables` meets its contract.
use mathlib.Core.Path.{sym, ◌∙◌}
use Rattle.std.proofs.lemmas.Result.{err_from_is_err_and}
use Rattle.linker.proofs.OutcomeLaws.{output-refused}
use Rattle.linker.proofs.link_tables.Goals as goal

pub returns-in_err-ask : goal.returns-in_err-ask
returns-in_err-ask c =
    let p = err_from_is_err_and c.from_residual.result c.from_residual.ensures.1 in
    rw (p.1, p.2) (output-refused _ _ _ _ (sym c.ask.ensures ∙ c.in_err-ask.was))
