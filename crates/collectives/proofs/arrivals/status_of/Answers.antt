-- `collectives::arrivals::status_of` meets its contract.
use Rattle.std.proofs.Common.{arith}
use borrow.Author.Tests.{ne_eqb}
use Rattle.collectives.proofs.arrivals.status_of.Goals as goal

pub returns-in-0 : goal.returns-in-0
returns-in-0 c = simp c.in-0.is

pub returns-in-1 : goal.returns-in-1
returns-in-1 c = simp c.in-1.is

pub returns-in_default : goal.returns-in_default
returns-in_default c = simp (ne_eqb c.args.word 0 (λ e. omega arith), ne_eqb c.args.word 1 (λ e. omega arith))
