use Rattle.std.proofs.Common.{arith}
use Rattle.np_bdd.proofs.PatternListLemmas.{some_wild}
use Rattle.np_bdd.proofs.addresses.is_whole.Goals as goal

pub returns-then-is_wild_below-clause-whole : goal.returns-then-is_wild_below-clause-whole
returns-then-is_wild_below-clause-whole c e =
    some_wild c.args.patterns.now c.loop-pattern.pattern-index c.args.width c.pattern-item.result c.pattern-item.result (omega arith) c.pattern-item.is (c.is_wild_below.ensures.wild c.if-is_wild_below.true)
