use Rattle.np_bdd.proofs.nodes.Nodes.+patterns_below.Given as goal

abbrev pub decreases-patterns_below : goal.decreases-patterns_below
decreases-patterns_below l = l.width
