use Rattle.np_bdd.proofs.nodes.Nodes.+range.Given as goal

abbrev pub decreases-range : goal.decreases-range
decreases-range l = l.width
