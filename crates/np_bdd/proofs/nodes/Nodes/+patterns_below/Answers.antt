use Rattle.std.proofs.Common.{◌-◌, ◌<◌, sym, ◌∙◌, arith}
use Rattle.np_bdd.proofs.FieldLemmas.{then_kept}
use Rattle.np_bdd.proofs.PatternListLemmas.{both_sides, passed_over}
use Rattle.np_bdd.proofs.nodes.Nodes.+patterns_below.Goals as goal

pub returns-then-are_wild-clause-is : goal.returns-then-are_wild-clause-is
returns-then-are_wild-clause-is t c =
    let more : 0 < c.args.width = c.is_whole.ensures.more c.if-is_whole.false in
    passed_over c.args.first c.args.width (c.args.width - 1) c.args.patterns.items c.patterns_below.new.self c.args.tail.at c.in_ok-patterns_below.field-0.at (omega arith) c.requires.narrow
    (rw c.deref-2.ensures.value at (sym c.are_wild.ensures ∙ c.if-are_wild.true)) c.in_ok-patterns_below.ensures.is

pub returns-in_err-high-clause-kept : goal.returns-in_err-high-clause-kept
returns-in_err-high-clause-kept t c = then_kept c.in_ok-low.ensures.kept c.in_err-high.ensures.kept

pub returns-in_err-node-clause-kept : goal.returns-in_err-node-clause-kept
returns-in_err-node-clause-kept t c = then_kept (then_kept c.in_ok-low.ensures.kept c.in_ok-high.ensures.kept) c.in_err-node.ensures.kept

pub returns-clause-kept : goal.returns-clause-kept
returns-clause-kept t c = then_kept (then_kept c.in_ok-low.ensures.kept c.in_ok-high.ensures.kept) c.in_ok-node.ensures.kept

pub returns-clause-is : goal.returns-clause-is
returns-clause-is t c =
    let more : 0 < c.args.width = c.is_whole.ensures.more c.if-is_whole.false in
    both_sides c.args.first c.args.width (c.args.width - 1) c.args.patterns.items c.in_ok-zeros.zeros.items c.in_ok-ones.ones.items
    c.patterns_below-2.new.self c.patterns_below-3.new.self c.node.new.self c.args.tail.at c.in_ok-low.low.at c.in_ok-high.high.at c.in_ok-node.field-0.at
    (omega arith) c.requires.narrow (rw c.deref-3.ensures.value at c.in_ok-zeros.ensures) (rw c.deref-4.ensures.value at c.in_ok-ones.ensures)
    (c.in_ok-low.ensures.kept.there c.args.tail.at c.requires.tail.there) c.in_ok-high.ensures.kept c.in_ok-node.ensures.kept
    c.in_ok-low.ensures.is c.in_ok-high.ensures.is c.in_ok-node.ensures.starts c.in_ok-node.ensures.chooses
