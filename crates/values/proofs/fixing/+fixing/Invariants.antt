use Rattle.values.proofs.fixing.+fixing.Given as goal

abbrev pub decreases-fixing : goal.decreases-fixing
decreases-fixing l = l.n
