use Rattle.np_space.proofs.AlgebraLemmas.{if_ok}
use Rattle.np_region.specs.Keeping.{tests_of}
use Rattle.np_bdd.specs.Views.{node_has}
use Rattle.np_atomizer.proofs.diagrams.DiagramsAtomizer.atomize.Goals as goal

pub returns-clause-classes : goal.returns-clause-classes
returns-clause-classes c =
    if_ok c.read.result (λ r all. (all (tests_of node_has c.args.self.now c.args.cuts.now) c.in_ok-partition.ensures.partition).classes) c.read.ensures

pub returns-clause-count : goal.returns-clause-count
returns-clause-count c =
    if_ok c.read.result (λ r all. (all (tests_of node_has c.args.self.now c.args.cuts.now) c.in_ok-partition.ensures.partition).count) c.read.ensures

pub returns-clause-numbers : goal.returns-clause-numbers
returns-clause-numbers c =
    if_ok c.read.result (λ r all. (all (tests_of node_has c.args.self.now c.args.cuts.now) c.in_ok-partition.ensures.partition).numbers) c.read.ensures
