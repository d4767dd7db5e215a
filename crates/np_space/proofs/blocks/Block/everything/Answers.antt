use Rattle.std.proofs.Common.{◌≡◌, arith, ap, ◌∙◌}
use Rattle.np_space.specs.Block.{block_has, everything}
use Rattle.np_space.specs.declared.spans.Span.{Span}
use Rattle.np_space.proofs.MadeLemmas.{same_block, high-span_from, everything-has}
use Rattle.np_space.proofs.blocks.Block.everything.Goals as goal

pub invariant_of-result : goal.invariant_of-result
invariant_of-result c =
    let proto : c.from_to.result.high ≡ 255 = ap (λ (s : Span). s.high) c.from_to.ensures ∙ high-span_from 0 255 (omega arith) in
    let est : c.from_to-2.result.high ≡ 1 = ap (λ (s : Span). s.high) c.from_to-2.ensures ∙ high-span_from 0 1 (omega arith) in
    let dscp : c.from_to-3.result.high ≡ 63 = ap (λ (s : Span). s.high) c.from_to-3.ensures ∙ high-span_from 0 63 (omega arith) in
    record { proto_width = omega arith; est_width = omega arith; dscp_width = omega arith }

pub returns-clause-is : goal.returns-clause-is
returns-clause-is c =
    same_block _ everything c.any-any.ensures.is c.any-any.ensures.is c.from_to.ensures c.from_to-numbers.ensures c.from_to-numbers.ensures c.from_to-2.ensures c.from_to-3.ensures

pub returns-clause-has : goal.returns-clause-has
returns-clause-has c = λ h. ap (λ b. block_has b h) (returns-clause-is c) ∙ everything-has h
