use Rattle.std.proofs.Common.{◌+◌, sym, ap, ◌∙◌, arith}
use Rattle.std.specs.Prelude.{count_by}
use Rattle.np_report.specs.Summary.{is_hop_line}
use Rattle.np_report.specs.Verdicts.{verdict_lines}
use Rattle.np_report.proofs.SummaryLaws.{all_hops, hops_ended, hops_step}
use Rattle.np_report.proofs.summary.hops.Goals as goal

pub loop-n-preserved : goal.loop-n-preserved
loop-n-preserved c = record {
  counted = λ net.
      hops_step net c.loop-n.n c.args.verdicts.now c.index-verdicts-n.result c.loop-n.count c.hops_of.result _
      c.loop-n-test.true
      (c.loop-n.invariant.counted net)
      (ap (λ v. count_by is_hop_line (verdict_lines net (c.loop-n.n + 1) v)) (sym c.index-verdicts-n.is) ∙ c.hops_of.ensures net (c.loop-n.n + 1));
  small = omega arith;
}

pub returns : goal.returns
returns c = λ net. all_hops net c.args.verdicts.now ∙ hops_ended net c.loop-n.n c.args.verdicts.now c.loop-n.count _ c.loop-n-test.false (c.loop-n.invariant.counted net)
