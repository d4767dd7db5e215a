use Rattle.std.proofs.Common.{true}
use Rattle.np_space.specs.Flag.{flag_number}
use Rattle.np_space.specs.Span.{span_has}
use Rattle.np_space.specs.declared.blocks.Block.{Block}
use Rattle.np_bdd.specs.Fields.{HasHeaders}
use Rattle.np_bdd.proofs.FieldLemmas.{proto_bits, a_bits, b_bits, est_bits, dscp_bits, has_every, has_field, then_kept}
use Rattle.np_bdd.proofs.BlockLemmas.{dscp_has, est_has, b_has, a_has, lower_all}
use Rattle.np_bdd.proofs.nodes.Nodes.lower.Goals as goal

pub returns-in_err-b-clause-kept : goal.returns-in_err-b-clause-kept
returns-in_err-b-clause-kept c = then_kept (then_kept c.in_ok-dscp.ensures.kept c.in_ok-est.ensures.kept) c.in_err-b.ensures.kept

pub returns-in_err-a-clause-kept : goal.returns-in_err-a-clause-kept
returns-in_err-a-clause-kept c = then_kept (then_kept (then_kept c.in_ok-dscp.ensures.kept c.in_ok-est.ensures.kept) c.in_ok-b.ensures.kept) c.in_err-a.ensures.kept

pub returns-in_err-span-clause-kept : goal.returns-in_err-span-clause-kept
returns-in_err-span-clause-kept c =
    then_kept (then_kept (then_kept (then_kept c.in_ok-dscp.ensures.kept c.in_ok-est.ensures.kept) c.in_ok-b.ensures.kept) c.in_ok-a.ensures.kept) c.in_err-span.ensures.kept

pub returns-clause-kept : goal.returns-clause-kept
returns-clause-kept c =
    then_kept (then_kept (then_kept (then_kept c.in_ok-dscp.ensures.kept c.in_ok-est.ensures.kept) c.in_ok-b.ensures.kept) c.in_ok-a.ensures.kept) c.in_ok-span.ensures.kept

pub returns-clause-exact : goal.returns-clause-exact
returns-clause-exact c =
    let block : Block = c.args.block.now in
    let yes_has : HasHeaders (λ h. true) c.args.self.now c.yes-yes.result.at = has_every c.args.self.now c.yes-yes.result.at c.yes-yes.ensures in
    let dscp : HasHeaders (dscp_has block) c.span.new.self c.in_ok-dscp.dscp.at =
    has_field (λ h. h.dscp) 105 6 dscp_bits (span_has block.dscp) (λ h. true) c.args.self.now c.span.new.self c.yes-yes.result.at c.in_ok-dscp.dscp.at
    c.in_ok-dscp.ensures.kept c.yes-yes.ensures.starts.there yes_has c.in_ok-dscp.ensures.tests in
    let est : HasHeaders (est_has block) c.span-2.new.self c.in_ok-est.est.at =
    has_field (λ h. flag_number h.est) 104 1 est_bits (span_has block.est) (dscp_has block) c.span.new.self c.span-2.new.self c.in_ok-dscp.dscp.at c.in_ok-est.est.at
    c.in_ok-est.ensures.kept c.in_ok-dscp.ensures.starts.there dscp c.in_ok-est.ensures.tests in
    let b : HasHeaders (b_has block) c.span-3.new.self c.in_ok-b.b.at =
    has_field (λ h. h.b) 88 16 b_bits (span_has block.b) (est_has block) c.span-2.new.self c.span-3.new.self c.in_ok-est.est.at c.in_ok-b.b.at
    c.in_ok-b.ensures.kept c.in_ok-est.ensures.starts.there est c.in_ok-b.ensures.tests in
    let a : HasHeaders (a_has block) c.span-4.new.self c.in_ok-a.a.at =
    has_field (λ h. h.a) 72 16 a_bits (span_has block.a) (b_has block) c.span-3.new.self c.span-4.new.self c.in_ok-b.b.at c.in_ok-a.a.at
    c.in_ok-a.ensures.kept c.in_ok-b.ensures.starts.there b c.in_ok-a.ensures.tests in
    lower_all block c.span-5.new.self c.in_ok-span.field-0.at
    (has_field (λ h. h.proto) 64 8 proto_bits (span_has block.proto) (a_has block) c.span-4.new.self c.span-5.new.self c.in_ok-a.a.at c.in_ok-span.field-0.at
    c.in_ok-span.ensures.kept c.in_ok-a.ensures.starts.there a c.in_ok-span.ensures.tests)
