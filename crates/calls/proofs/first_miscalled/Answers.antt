-- `first_miscalled` meets its contract. The loop's invariant: the lowest call that fails for the procedures passed.
use Rattle.calls.proofs.CallLaws.{calls-none, calls-more, calls-all}
use Rattle.rules.specs.Table.{decode, procedures}
use native.Mathlib.Omega.{arith}
use mathlib.Core.Path.{◌≡◌, sym, ◌∙◌}
use Rattle.calls.proofs.first_miscalled.Goals as goal

pub loop-p-init : goal.loop-p-init
loop-p-init c = (c.requires.1, c.args.table.now.sized.nodes-read ∙ sym (calls-none (decode c.args.table.now.bytes.now)))

pub loop-p-preserved : goal.loop-p-preserved
loop-p-preserved c =
    let loop = c.loop-p in
    let first = c.first_high_call.ensures in (
      first.marks_after,
      c.min-lowest.ensures ∙ simp (loop.invariant.1, first.value) (sym (calls-more (decode c.args.table.now.bytes.now) loop.p)),
    )

pub returns-clause-value : goal.returns-clause-value
returns-clause-value c =
    let program = decode c.args.table.now.bytes.now in
    let all : c.loop-p.p ≡ procedures program = omega (arith, c.args.table.now.sized.procedures-read) in
    rw all at c.loop-p.invariant.1 ∙ calls-all program
