use Rattle.std.proofs.lemmas.Result.{IfOk-weaker}
use Rattle.np_top.proofs.answers.generated.Goals as goal

pub returns-clause-report : goal.returns-clause-report
returns-clause-report g c =
    let inputs = c.in_ok-inputs.inputs in
    let said = c.in_ok-inputs.ensures in
    IfOk-weaker c.summary.result _ _
    (λ answer is. record { net = inputs.net; configs = inputs.configs.items; net_read = said.net; configs_read = said.configs; summary = is })
    c.summary.ensures.report
