use Rattle.np_pred.proofs.reading.+predicate.Given as goal

abbrev pub decreases-predicate : goal.decreases-predicate
decreases-predicate l = l.levels
