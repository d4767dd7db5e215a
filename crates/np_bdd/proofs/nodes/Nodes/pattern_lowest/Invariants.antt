use Rattle.np_bdd.proofs.AddressLemmas.{IsSoFar}
use Rattle.np_bdd.proofs.nodes.Nodes.pattern_lowest.Given as goal

abbrev pub invariant-loop-k : goal.invariant-loop-k
invariant-loop-k l = IsSoFar l.pattern l.first l.k l.fn.self l.self l.tail.at l.node.at
