-- `records::save` meets its contract: a turn saves one record more.
use Rattle.std.proofs.Common.{sym, ap}
use Rattle.std.proofs.Math.ListN.{set}
use Rattle.collectives.specs.Given.{arrival_at}
use Rattle.records.proofs.LendLaws.{saved-none, saved-next}
use Rattle.records.proofs.save.Goals as goal

pub loop-p-init : goal.loop-p-init
loop-p-init c = sym (saved-none c.args.words.now c.args.roll.now)

pub loop-p-preserved : goal.loop-p-preserved
loop-p-preserved c =
    let p = c.loop-p.p in
    rw (c.read.ensures, saved-next) (ap (λ roll. set roll p (arrival_at c.args.words.now p)) c.loop-p.invariant)
