use Rattle.std.proofs.Common.{sym, ◌∙◌}
use Rattle.std.proofs.lemmas.Bool.{eqb-true, eqb-false}
use Rattle.np_bdd.specs.Views.{bits_of_header}
use Rattle.np_bdd.proofs.WayLemmas.{way_low, way_high}
use Rattle.np_bdd.proofs.nodes.Nodes.least_branch.Goals as goal

pub returns-then-eq-clause-way : goal.returns-then-eq-clause-way
returns-then-eq-clause-way c =
    let none = eqb-true c.in-Test.low.at 0 (sym c.eq.ensures ∙ c.if-eq.true) in
    λ x way. way_high c.args.self.now c.is_diagram.ensures x c.args.at.at c.in-Test.bit c.in-Test.low c.in-Test.high (bits_of_header c.args.h.now) (bits_of_header c.with_bit_set.result) (sym c.in-Test.ensures.view) none c.with_bit_set.ensures.bits way

pub returns-else-eq-clause-way : goal.returns-else-eq-clause-way
returns-else-eq-clause-way c =
    let some = eqb-false c.in-Test.low.at 0 (sym c.eq.ensures ∙ c.if-eq.false) in
    λ x way. way_low c.args.self.now c.is_diagram.ensures x c.args.at.at c.in-Test.bit c.in-Test.low c.in-Test.high (bits_of_header c.args.h.now) (sym c.in-Test.ensures.view) some way
