-- `Table::procedure_fits` meets its contract: the two tests of question 6 in turn.
use Rattle.rules.specs.WellFormed.{procedure_fits}
use Rattle.rules.specs.Table.{procedure_word}
use borrow.Author.Tests.{eq-eqb, ne_eqb}
use Rattle.table.proofs.Table.procedure_fits.Goals as goal

pub returns-then-word-eq0 : goal.returns-then-word-eq0
unfolding procedure_fits procedure_word
returns-then-word-eq0 c =
    let given = c.args.self.now.sized in
    simp (
      ← c.word.ensures,
      eq-eqb _ _ c.if-word-eq0.true,
      c.body.ensures,
      given.nodes-read,
    )

pub returns-else-word-eq0 : goal.returns-else-word-eq0
unfolding procedure_fits procedure_word
returns-else-word-eq0 c = simp (← c.word.ensures, ne_eqb _ _ c.if-word-eq0.false)
