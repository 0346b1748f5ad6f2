-- `records::load` meets its contract: a turn loads one record more.
use Rattle.std.proofs.Common.{sym, ap, ◌∙◌, get_or, arith}
use Rattle.rules.specs.Arrivals.{running_record, with_arrival}
use Rattle.records.proofs.LendLaws.{loaded-none, loaded-next}
use Rattle.records.proofs.load.Goals as goal

pub loop-p-init : goal.loop-p-init
loop-p-init c = sym (loaded-none c.args.roll.now)

pub loop-p-preserved : goal.loop-p-preserved
loop-p-preserved c =
    let roll = c.args.roll.now in
    let p = c.loop-p.p in
    c.write.ensures
    ∙ ap (λ words. with_arrival words p (get_or roll p running_record)) c.loop-p.invariant
    ∙ sym (loaded-next roll p (omega (arith, c.min-p-end.ensures)) (omega (arith, c.min-p-end.ensures)))
