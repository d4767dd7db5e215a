use Rattle.std.proofs.Common.{◌∙◌, ap}
use Rattle.std.specs.Prelude.{◌&&◌}
use Rattle.np_space.specs.Block.{fields_have}
use Rattle.np_space.specs.Span.{span_has}
use Rattle.np_cut.proofs.FieldLaws.{tests_by, proto_and_b}
use Rattle.np_cut.proofs.field_blocks.of_second_number.Goals as goal

pub returns : goal.returns
returns c = tests_by c.block_of.result _ _ c.block_of.ensures (λ h valid.
    let all = c.everything-all.ensures.is in
    (λ i. fields_have (all i).src (all i).dst c.protocol-proto.result (all i).a c.args.b (all i).est (all i).dscp h) ∙ proto_and_b h valid c.protocol-proto.result c.args.b ∙ ap (λ t. t && span_has c.args.b h.b) (c.protocol-proto.ensures.has h.proto))
