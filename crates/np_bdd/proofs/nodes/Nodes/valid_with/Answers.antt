use Rattle.np_bdd.proofs.PatternListLemmas.{valid_with_has}
use Rattle.np_bdd.proofs.nodes.Nodes.valid_with.Goals as goal

pub returns-clause-exact : goal.returns-clause-exact
returns-clause-exact c =
    valid_with_has c.args.field c.args.patterns.now c.first_bit.result c.args.self.now c.patterns.new.self c.args.valid.at c.in_ok-patterns.field-0.at
    c.first_bit.ensures.bits c.in_ok-patterns.ensures.kept c.requires.starts c.requires.valid c.in_ok-patterns.ensures.tests
