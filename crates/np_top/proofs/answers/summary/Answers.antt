use Rattle.std.proofs.Common.{◌∙◌, ap}
use Rattle.np_report.specs.Summary.{summary_text}
use Rattle.np_top.specs.Report.{verdicts_status}
use Rattle.np_top.proofs.Reports.{verdicts_right}
use Rattle.np_top.proofs.answers.summary.Goals as goal

pub returns-clause-report : goal.returns-clause-report
returns-clause-report g c =
    let net = c.args.net.now in
    let configs = c.args.configs.items in
    let case = c.in_ok-case.case in
    let verdicts = c.in_ok-verdicts.verdicts in
    record {
      leasts = case.leasts;
      least = c.in_ok-case.ensures.case.leasts;
      verdicts = verdicts;
      right = verdicts_right net configs case verdicts c.in_ok-case.ensures.case c.in_ok-verdicts.ensures.count c.in_ok-verdicts.ensures.verdicts;
      text_is = c.in_ok-summary_report.ensures.text ∙ (λ i. summary_text c.args.seed net (c.len.ensures i) (c.as_slice.ensures i));
      status_is = c.in_ok-summary_report.ensures.status ∙ ap verdicts_status c.as_slice.ensures;
    }
