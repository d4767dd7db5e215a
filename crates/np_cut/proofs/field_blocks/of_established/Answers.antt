use Rattle.std.proofs.Common.{◌∙◌, ap}
use Rattle.std.specs.Prelude.{◌&&◌}
use Rattle.np_space.specs.Block.{fields_have}
use Rattle.np_space.specs.Span.{span_has}
use Rattle.np_cut.proofs.FieldLaws.{tests_by, est_alone}
use Rattle.np_cut.proofs.field_blocks.of_established.Goals as goal

pub returns : goal.returns
returns c = tests_by c.block_of.result _ _ c.block_of.ensures (λ h valid.
    let all = c.everything-all.ensures.is in
    (λ i. fields_have (all i).src (all i).dst (all i).proto (all i).a (all i).b c.set_flag-set.result (all i).dscp h) ∙ est_alone h valid c.set_flag-set.result ∙ c.set_flag-set.ensures.has h.est)
