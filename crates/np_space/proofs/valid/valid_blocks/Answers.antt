use Rattle.np_space.proofs.ValidLemmas.{valid_once, valid_together, valid_disjoint}
use Rattle.np_space.proofs.valid.valid_blocks.Goals as goal

pub returns-clause-once : goal.returns-clause-once
returns-clause-once c =
    valid_once c.block_anywhere.result c.block_anywhere-2.result c.block_anywhere-3.result c.block_anywhere-4.result c.block_anywhere-5.result c.block_anywhere-6.result c.block_anywhere-7.result
    c.block_anywhere.ensures c.block_anywhere-2.ensures c.block_anywhere-3.ensures c.block_anywhere-4.ensures c.block_anywhere-5.ensures c.block_anywhere-6.ensures c.block_anywhere-7.ensures

pub returns-clause-together : goal.returns-clause-together
returns-clause-together c = valid_together _ (returns-clause-once c)

pub returns-clause-disjoint : goal.returns-clause-disjoint
returns-clause-disjoint c = valid_disjoint _ (returns-clause-once c)
