use Rattle.np_bdd.proofs.ValidLemmas.{IsJoined}
use Rattle.np_bdd.proofs.nodes.Nodes.valid.Given as goal

abbrev pub invariant-loop-block : goal.invariant-loop-block
invariant-loop-block l = IsJoined l.block-items l.block-index l.fn.self l.self l.node.at
