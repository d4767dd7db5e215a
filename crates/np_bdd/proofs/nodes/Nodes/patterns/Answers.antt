use Rattle.np_bdd.proofs.PatternListLemmas.{any_field_tests}
use Rattle.np_bdd.proofs.nodes.Nodes.patterns.Goals as goal

pub returns-clause-tests : goal.returns-clause-tests
returns-clause-tests c =
    (any_field_tests c.args.patterns.now c.in_ok-all.all.items c.args.first c.patterns_below.new.self c.args.tail.at c.in_ok-patterns_below.field-0.at c.in_ok-all.ensures.items c.in_ok-patterns_below.ensures.is).1
