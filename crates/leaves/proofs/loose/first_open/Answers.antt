-- `loose::first_open` meets its contract: question 26 holds of the nodes passed.
use mathlib.Core.Path.{◌≡◌, sym, ◌∙◌}
use native.Mathlib.Omega.{arith}
use Rattle.rules.specs.Table.{decode, nodes}
use Rattle.rules.specs.WellFormed.{leave_enclosed}
use Rattle.rules.proofs.ChoiceLaws.{first-at, first-none}
use Rattle.leaves.proofs.loose.first_open.Goals as goal

pub returns-then-not-enclosed : goal.returns-then-not-enclosed
returns-then-not-enclosed c =
    let loop = c.loop-n in
    sym (first-at (leave_enclosed (decode c.args.table.now.bytes.now)) _ loop.n (omega (arith, c.args.table.now.sized.nodes-read)) loop.invariant
    (sym c.enclosed.ensures ∙ c.if-not-enclosed.true))

pub returns : goal.returns
returns c =
    let all : c.loop-n.n ≡ nodes (decode c.args.table.now.bytes.now) = omega (arith, c.args.table.now.sized.nodes-read) in
    c.args.table.now.sized.nodes-read ∙ sym (first-none _ _ (rw all at c.loop-n.invariant))
