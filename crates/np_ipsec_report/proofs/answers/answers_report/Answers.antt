use Rattle.std.proofs.Common.{codes, if◌then◌else◌, ap, ◌∙◌}
use Rattle.np_ipsec_report.specs.Answers.{answer_lines}
use Rattle.np_report.proofs.TextLaws.{last_appended}
use Rattle.np_ipsec_report.proofs.answers.answers_report.Goals as goal

pub returns : goal.returns
returns c =
    last_appended (answer_lines c.args.net.now 1 c.args.answers.now) _ _ _ _ _ _
    c.new-text.ensures.items c.in_ok-put_goals.ensures c.in_ok-extend_from_slice.ensures.items c.in_ok-push.ensures.items (c.last_word.ensures ∙ ap (λ all. if all then codes "yes" else codes "no") c.all_yes.ensures)
