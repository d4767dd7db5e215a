use Rattle.std.proofs.Common.{◌≡◌, List, sym, ◌∙◌, ap, true, false}
use Rattle.std.proofs.lemmas.Bool.{eq-eqb, ne_eqb}
use Rattle.np_partition.specs.declared.shows.Show.{Show}
use Rattle.np_partition.specs.declared.shows.Show.TheVariants.{Class, Test}
use Rattle.np_partition.specs.Diagram.{show_at}
use Rattle.np_partition.proofs.RegionLaws.{class_node, test_result}
use Rattle.np_partition.proofs.partition.Partition.node.Goals as goal

pub returns-in-Class-clause-exact : goal.returns-in-Class-clause-exact
returns-in-Class-clause-exact c =
    let shown : show_at c.args.self.now.shows c.args.at ≡ Class c.in-Class.class = ap (λ (shows : List Show). show_at shows c.args.at) (sym c.as_slice.ensures) ∙ c.in-Class.is in
    class_node c.args.self.now.shows c.args.n c.args.store.now c.args.at c.in-Class.class c.yes.result true c.requires.there shown (eq-eqb c.in-Class.class c.args.n c.if-class-n.true) c.yes.ensures

pub returns-in-Class-2-clause-exact : goal.returns-in-Class-2-clause-exact
returns-in-Class-2-clause-exact c =
    let shown : show_at c.args.self.now.shows c.args.at ≡ Class c.in-Class.class = ap (λ (shows : List Show). show_at shows c.args.at) (sym c.as_slice.ensures) ∙ c.in-Class.is in
    class_node c.args.self.now.shows c.args.n c.args.store.now c.args.at c.in-Class.class c.no.result false c.requires.there shown (ne_eqb c.in-Class.class c.args.n c.if-class-n.false) c.no.ensures

pub returns-in-Test-clause-exact : goal.returns-in-Test-clause-exact
returns-in-Test-clause-exact c =
    let shown : show_at c.args.self.now.shows c.args.at ≡ Test c.in-Test.bit c.in-Test.low c.in-Test.high = ap (λ (shows : List Show). show_at shows c.args.at) (sym c.as_slice.ensures) ∙ c.in-Test.is in
    test_result c.args.self.now.shows c.requires.diagram c.args.n c.args.store.now c.test.new.self c.args.nodes.now c.args.at c.in-Test.bit c.in-Test.low c.in-Test.high c.test.result c.requires.there shown c.requires.before c.requires.nodes
    c.test.ensures.nodes c.test.ensures.starts c.test.ensures.chooses
