use Rattle.np_bdd.proofs.PatternListLemmas.{lowest_set, mask_is}
use Rattle.np_bdd.proofs.addresses.is_wild_below.Goals as goal

pub returns-clause-wild : goal.returns-clause-wild
returns-clause-wild c = lowest_set c.args.pattern.now.wild c.from.result c.args.width _ c.from.ensures (mask_is c.args.width c.requires)
