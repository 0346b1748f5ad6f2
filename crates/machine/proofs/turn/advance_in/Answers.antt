-- `machine::turn::advance_in` meets its contract.
use Rattle.process.proofs.LentLaws.{lent, back}
use Rattle.rules.specs.Process.{with_process}
use mathlib.Core.Path.{◌∙◌, ap}
use Rattle.machine.proofs.turn.advance_in.Goals as goal

pub advance-requires : goal.advance-requires
advance-requires c =
    let args = c.args in
    rw (lent args.state.now args.p) c.requires.2

pub returns : goal.returns
returns c =
    let state = c.args.state.now in
    let p = c.args.p in
    back state c.advance.new.words p
    ∙ ap (with_process state p) (rw (lent state p) at c.advance.ensures)
