use Rattle.std.proofs.Common.{◌<◌, length, sym, ◌∙◌, ap, arith, if◌then◌else◌}
use Rattle.np_bdd.specs.Views.{bits_of_header}
use Rattle.np_partition.specs.Diagram.{class_at}
use Rattle.np_partition.proofs.DiagramLaws.{class_at_class, class_chosen, ordered_test}
use Rattle.np_partition.proofs.asking.class_from.Goals as goal

pub returns-in-Class : goal.returns-in-Class
returns-in-Class c = sym (class_at_class (bits_of_header c.args.h.now) c.args.shows.now c.bits.at c.in-Class.n c.bits.invariant.0 c.in-Class.is) ∙ c.bits.invariant.1

pub bits-preserved-then-header_bit : goal.bits-preserved-then-header_bit
bits-preserved-then-header_bit c =
    let bits = bits_of_header c.args.h.now in
    let shows = c.args.shows.now in
    let t = c.in-Test in
    let there : c.bits.at < length shows = c.bits.invariant.0 in
    let o = ordered_test shows c.requires.diagram c.bits.at t.bit t.low t.high there t.is in
    let chosen = class_chosen shows c.requires.diagram bits c.bits.at t.bit t.low t.high there t.is in
    let bit = sym c.header_bit.ensures ∙ c.if-header_bit.true in
    let before = o.high_before in
    (omega arith, sym (chosen ∙ ap (λ b. if b then class_at bits shows t.high else class_at bits shows t.low) bit) ∙ c.bits.invariant.1)

pub bits-preserved : goal.bits-preserved
bits-preserved c =
    let bits = bits_of_header c.args.h.now in
    let shows = c.args.shows.now in
    let t = c.in-Test in
    let there : c.bits.at < length shows = c.bits.invariant.0 in
    let o = ordered_test shows c.requires.diagram c.bits.at t.bit t.low t.high there t.is in
    let chosen = class_chosen shows c.requires.diagram bits c.bits.at t.bit t.low t.high there t.is in
    let bit = sym c.header_bit.ensures ∙ c.if-header_bit.false in
    let before = o.low_before in
    (omega arith, sym (chosen ∙ ap (λ b. if b then class_at bits shows t.high else class_at bits shows t.low) bit) ∙ c.bits.invariant.1)
