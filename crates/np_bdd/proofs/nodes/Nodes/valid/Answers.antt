use Rattle.std.proofs.Common.{take, arith}
use Rattle.np_bdd.proofs.ValidLemmas.{any_lower, joined_more, joined_all}
use Rattle.np_bdd.proofs.nodes.Nodes.valid.Goals as goal

pub loop-block-preserved : goal.loop-block-preserved
loop-block-preserved c =
    joined_more c.valid_blocks-blocks.result c.loop-block.block-index c.block-item.result c.args.self.now c.loop-block.self c.or_lower.new.self c.loop-block.node.at c.in_ok-node.node.at
    (omega arith) c.loop-block.invariant c.in_ok-node.ensures.kept c.in_ok-node.ensures.starts
    (c.in_ok-node.ensures.exact (any_lower (take c.loop-block.block-index c.valid_blocks-blocks.result)) c.loop-block.invariant.has)

pub returns-clause-exact : goal.returns-clause-exact
returns-clause-exact c =
    joined_all c.valid_blocks-blocks.result c.loop-block.block-index c.args.self.now c.loop-block.self c.loop-block.node.at
    c.valid_blocks-blocks.ensures.listed c.valid_blocks-blocks.ensures.together (omega arith) c.loop-block.invariant
