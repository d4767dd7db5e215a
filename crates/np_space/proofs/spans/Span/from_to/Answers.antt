use Rattle.std.proofs.Common.{◌≡◌, arith, min, ◌∙◌}
use Rattle.np_space.specs.Span.{span_from}
use Rattle.np_space.proofs.MadeLemmas.{same_span}
use Rattle.np_space.proofs.spans.Span.from_to.Goals as goal

pub returns : goal.returns
unfolding span_from
returns c =
    let low : min c.args.low c.args.high ≡ min c.args.low (min c.args.high 65535) = omega arith in
    let high : c.args.high ≡ min c.args.high 65535 = omega arith in
    same_span _ (span_from c.args.low c.args.high) (c.min.ensures ∙ low) high
