use Rattle.std.proofs.Common.{◌∙◌, ap}
use Rattle.np_report.specs.Verdicts.{verdicts_text}
use Rattle.np_top.specs.Report.{verdicts_status}
use Rattle.np_top.proofs.Reports.{verdicts_right, verdicts_within}
use Rattle.np_top.proofs.answers.check.Goals as goal

pub verdicts_report-requires : goal.verdicts_report-requires
verdicts_report-requires g c =
    let net = c.args.inputs.net in
    let configs = c.args.inputs.configs.items in
    let verdicts = c.in_ok-verdicts.verdicts in
    rw c.as_slice.ensures (
    verdicts_within net configs verdicts (verdicts_right net configs c.in_ok-case.case verdicts c.in_ok-case.ensures.case c.in_ok-verdicts.ensures.count c.in_ok-verdicts.ensures.verdicts)
    )

pub returns-clause-report : goal.returns-clause-report
returns-clause-report g c =
    let net = c.args.inputs.net in
    let configs = c.args.inputs.configs.items in
    let verdicts = c.in_ok-verdicts.verdicts in
    record {
      verdicts = verdicts;
      right = verdicts_right net configs c.in_ok-case.case verdicts c.in_ok-case.ensures.case c.in_ok-verdicts.ensures.count c.in_ok-verdicts.ensures.verdicts;
      text_is = c.in_ok-verdicts_report.ensures.text ∙ ap (verdicts_text net) c.as_slice.ensures;
      status_is = c.in_ok-verdicts_report.ensures.status ∙ ap verdicts_status c.as_slice.ensures;
    }
