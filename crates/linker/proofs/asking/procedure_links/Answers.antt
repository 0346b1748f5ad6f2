-- `asking::procedure_links` meets its contract.
use borrow.Author.Tests.{le-ltb, lt-ltb, le-leb, lt-leb}
use Rattle.linker.specs.Linking.{procedure_links}
use Rattle.linker.proofs.asking.procedure_links.Goals as goal

pub returns-then-both-p : goal.returns-then-both-p
unfolding procedure_links
returns-then-both-p c =
    let both = c.args.both.now in
    simp (
      ← both.program.sized.procedures-read,
      ← both.library.sized.procedures-read,
      lt-ltb _ _ c.if-p-both.true,
      le-leb _ _ c.if-both-p.true,
    )

pub returns-else-both-p : goal.returns-else-both-p
unfolding procedure_links
returns-else-both-p c =
    let both = c.args.both.now in
    simp (
      ← both.program.sized.procedures-read,
      ← both.library.sized.procedures-read,
      lt-ltb _ _ c.if-p-both.true,
      lt-leb _ _ c.if-both-p.false,
    )
    c.is_stub.ensures

pub returns-else-p-both : goal.returns-else-p-both
unfolding procedure_links
returns-else-p-both c = simp (← c.args.both.now.program.sized.procedures-read, le-ltb _ _ c.if-p-both.false)
