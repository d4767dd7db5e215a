use Rattle.np_bdd.proofs.AddressLemmas.{pattern_tests}
use Rattle.np_bdd.proofs.nodes.Nodes.pattern.Goals as goal

pub returns-clause-tests : goal.returns-clause-tests
returns-clause-tests c = pattern_tests c.args.pattern.now c.args.first c.pattern_lowest.new.self c.args.tail.at c.in_ok-pattern_lowest.field-0.at c.in_ok-pattern_lowest.ensures.is
