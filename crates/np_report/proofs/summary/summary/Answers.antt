use Rattle.np_report.proofs.SummaryLaws.{summary_appended}
use Rattle.np_report.proofs.summary.summary.Goals as goal

pub returns : goal.returns
returns c =
    summary_appended _ _ _ _ _ _ c.args.seed c.args.net.now c.args.atoms c.args.verdicts.now c.from.result c.violated.result c.hops.result
    c.from.ensures
    c.violated.ensures
    (c.hops.ensures c.args.net.now)
    c.new-text.ensures.items
    c.in_ok-put_count.ensures
    c.in_ok-put_sizes.ensures
    c.in_ok-put_count-2.ensures
    c.in_ok-put_count-3.ensures
    c.in_ok-put_hop_count.ensures
