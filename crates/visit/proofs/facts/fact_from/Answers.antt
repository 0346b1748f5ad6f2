-- `facts::fact_from` meets its contract: the arms of the match are the clauses of `sourced`.
use Rattle.visit.specs.Facts.{sourced}
use Rattle.visit.proofs.facts.fact_from.Goals as goal

pub returns-in-Never : goal.returns-in-Never
unfolding sourced
returns-in-Never c = simp c.in-Never.is

pub returns-in-Always : goal.returns-in-Always
unfolding sourced
returns-in-Always c = simp c.in-Always.is

pub returns-in-Unflagged : goal.returns-in-Unflagged
unfolding sourced
returns-in-Unflagged c = simp (c.in-Unflagged.is, c.flagged.ensures)

pub returns-in-Flagged : goal.returns-in-Flagged
unfolding sourced
returns-in-Flagged c = simp (c.in-Flagged.is, c.flagged-in-Flagged.ensures)

pub returns-in-Called : goal.returns-in-Called
unfolding sourced
returns-in-Called c = simp (c.in-Called.is, c.effect_flag.ensures)

pub returns-in-OfA : goal.returns-in-OfA
unfolding sourced
returns-in-OfA c = simp (c.in-OfA.is, c.fact.ensures)

pub returns-in-OfB : goal.returns-in-OfB
unfolding sourced
returns-in-OfB c = simp (c.in-OfB.is, c.fact-in-OfB.ensures)

pub returns-in-OfAOrB : goal.returns-in-OfAOrB
unfolding sourced
returns-in-OfAOrB c = simp (c.in-OfAOrB.is, c.either.ensures)

pub returns-in-OfBOrC : goal.returns-in-OfBOrC
unfolding sourced
returns-in-OfBOrC c = simp (c.in-OfBOrC.is, c.either-in-OfBOrC.ensures)
