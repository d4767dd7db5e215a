use Rattle.std.proofs.Common.{sym}
use Rattle.np_pred.proofs.DscpLaws.{same_dscp_span, low-dscp_span_from, high-dscp_span_from}
use Rattle.np_pred.specs.Dscp.{dscp_span_from}
use Rattle.np_pred.proofs.dscp_words.dscp_span_from.Goals as goal

pub returns : goal.returns
returns c =
    same_dscp_span _ (dscp_span_from c.args.low c.args.high) (sym (low-dscp_span_from c.args.low c.args.high c.requires.ordered c.requires.width)) (sym (high-dscp_span_from c.args.low c.args.high c.requires.width))
