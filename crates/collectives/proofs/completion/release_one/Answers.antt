-- `collectives::completion::release_one` meets its contract.
use Rattle.collectives.proofs.ArrivalMoves.{waiting-at, resume-waiting, end-waiting}
use Rattle.rules.specs.Arrivals.{with_arrival}
use borrow.Author.Tests.{eq-eqb, ne_eqb}
use mathlib.Core.Path.{◌∙◌, ap}
use Rattle.collectives.proofs.completion.release_one.Goals as goal

pub returns-then-depth-eq0 : goal.returns-then-depth-eq0
returns-then-depth-eq0 c =
    let read = c.read-arrival in
    let args = c.args in
    let given = c.requires in
    let waits = ap (λ r. r.status) read.ensures ∙ waiting-at _ _ given.1 in
    rw (eq-eqb _ _ c.if-depth-eq0.true)
    (c.write.ensures
    ∙ ap (with_arrival args.roll.now args.p)
    (c.end.ensures ∙ end-waiting read.result waits))

pub returns-else-depth-eq0 : goal.returns-else-depth-eq0
returns-else-depth-eq0 c =
    let read = c.read-arrival in
    let args = c.args in
    let given = c.requires in
    let waits = ap (λ r. r.status) read.ensures ∙ waiting-at _ _ given.1 in
    rw (ne_eqb _ _ c.if-depth-eq0.false)
    (c.write-else-depth-eq0.ensures
    ∙ ap (with_arrival args.roll.now args.p)
    (c.resume.ensures ∙ resume-waiting read.result waits))
