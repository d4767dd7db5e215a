use Rattle.np_region.proofs.BlockListLemmas.{and_pattern_listed}
use Rattle.np_region.proofs.lists.and_pattern.Goals as goal

pub returns : goal.returns
returns c =
    and_pattern_listed c.args.field c.args.pattern c.of_address.result c.args.blocks.now c.deref.result.now c.in_ok-one.one.items _ c.of_address.ensures c.in_ok-one.ensures c.deref.ensures.value c.in_ok-union.ensures
